-- Rows hold texts and whole numbers.
use Rattle.std.proofs.Common.{◌*◌, ◌/◌, ◌%◌, Option, Some, None, arith, decimal, ℕ, ◌^◌, ◌<◌, Bool, true, false, if◌then◌else◌, [], ◌∷◌, refl, map}
use Rattle.std.specs.Prelude.{codes}
use Rattle.std.specs.List.{AllByRecursion}
use Rattle.std.specs.Str.{IsUtf8}
use Rattle.std.proofs.lemmas.Fmt.{IsAscii-decimal}
use Rattle.std.proofs.lemmas.Nat.{mul-lt}
use Rattle.std.proofs.lemmas.Str.{IsUtf8-append, IsUtf8-from_ascii}
use Rattle.json.proofs.Printed.Utf8.{IsUtf8-are_ascii}
use Rattle.lfs_meta.specs.Attribute.{Attributes}
use Rattle.lfs_fs.specs.Entry.{Entry, leads, body_length}
use Rattle.lfs_fs.specs.Row.{Row}
use Rattle.lfs_fs.specs.Path.{Path, path_text}
use Rattle.lfs_json.specs.Object.{members_of, items_of, integer}
use Rattle.lfs_json.specs.Texts.{ItemsHaveTexts, MembersHaveTexts}
use Rattle.lfs_json.proofs.MemberTexts.{members_then, integer_text, digits_text, bytes_text}
use Rattle.lfs_json.specs.Rows.{size_members, path_member, entry_members, attribute_json, attribute_members, digest_member, row_members}
use Rattle.lfs_json.specs.Blocks.{user_members}
use Rattle.lfs_json.specs.Steps.{state_word}
use Rattle.lfs_json.specs.Summary.{version_word}
use Rattle.lfs_json.specs.RecordTexts.{BlocksHaveTexts, ChangesHaveTexts, DigestsHaveTexts, HasNumbers, LimitsHaveTexts, RowsHaveTexts, StepsHaveTexts, SummariesHaveTexts}

-- what it is, and its size
kind_text : (b : Bool) → IsUtf8 (if b then codes "directory" else codes "file")
kind_text true = IsUtf8-are_ascii _ refl
kind_text false = IsUtf8-are_ascii _ refl

size_text : (b : Bool) (n : ℕ) → n < 2 ^ 64 → MembersHaveTexts (members_of (if b then [] else (codes "size", integer n) ∷ []))
size_text true n h = tt
size_text false n h = (IsUtf8-are_ascii _ refl, (integer_text n h, tt))

entry_texts : (p : Path) (e : Entry) → HasNumbers e → MembersHaveTexts (members_of (entry_members p e))
entry_texts p e h = (
  IsUtf8-are_ascii _ refl,
  (
    kind_text (leads e),
    members_then (size_members e) (path_member p ∷ []) (size_text (leads e) (body_length e.body) h.size)
        (bytes_text (codes "path") (codes "path_hex") (path_text p) (IsUtf8-are_ascii _ refl) (IsUtf8-are_ascii _ refl)),
  ),
)

-- its attributes
each_text : (xs : Attributes) → AllByRecursion (λ x. x.0 < 2 ^ 64) xs → ItemsHaveTexts (items_of (map attribute_json xs))
each_text [] h = tt
each_text ((kind, value) ∷ xs) h =
    ((IsUtf8-are_ascii _ refl, (integer_text kind h.0, (IsUtf8-are_ascii _ refl, (digits_text value, tt)))), each_text xs h.1)

attribute_texts : (xs : Attributes) → AllByRecursion (λ x. x.0 < 2 ^ 64) xs → MembersHaveTexts (members_of (attribute_members xs))
attribute_texts [] h = tt
attribute_texts (x ∷ xs) h = (IsUtf8-are_ascii _ refl, (each_text (x ∷ xs) h, tt))

pub rows_have_texts : RowsHaveTexts
rows_have_texts p e h =
    members_then (entry_members p e) (attribute_members e.attributes) (entry_texts p e h) (attribute_texts e.attributes h.kinds)

pub digests_have_texts : DigestsHaveTexts
digests_have_texts p e digest h =
    members_then (row_members p e) (digest_member digest ∷ []) (rows_have_texts p e h) (IsUtf8-are_ascii _ refl, (digits_text digest, tt))

pub changes_have_texts : ChangesHaveTexts
changes_have_texts change p e word h = (
  (IsUtf8-are_ascii _ refl, (word, rows_have_texts p e h)),
  (IsUtf8-are_ascii _ refl, (word, entry_texts p e h)),
)

-- ---- blocks

user_texts : (u : Option Row) → MembersHaveTexts (members_of (user_members u))
user_texts None = (IsUtf8-are_ascii _ refl, (IsUtf8-are_ascii _ refl, tt))
user_texts (Some r) = (
  IsUtf8-are_ascii _ refl,
  (
    kind_text (leads r.entry),
    bytes_text (codes "path") (codes "path_hex") (path_text r.path) (IsUtf8-are_ascii _ refl) (IsUtf8-are_ascii _ refl),
  ),
)

pub blocks_have_texts : BlocksHaveTexts
blocks_have_texts u m n h k = (
  members_then (user_members u) ((codes "blocks", integer m) ∷ []) (user_texts u) (IsUtf8-are_ascii _ refl, (integer_text m h, tt)),
  members_then (user_members u) ((codes "first", integer m) ∷ (codes "last", integer n) ∷ []) (user_texts u)
      (IsUtf8-are_ascii _ refl, (integer_text m h, (IsUtf8-are_ascii _ refl, (integer_text n k, tt)))),
)

-- ---- changes of a history

state_text : (done : Bool) → IsUtf8 (state_word done)
state_text true = IsUtf8-are_ascii _ refl
state_text false = IsUtf8-are_ascii _ refl

pub steps_have_texts : StepsHaveTexts
steps_have_texts number done h = (IsUtf8-are_ascii _ refl, (integer_text number h, (IsUtf8-are_ascii _ refl, (state_text done, tt))))

-- ---- an image in numbers

few : (n : ℕ) → n < 2 ^ 32 → n < 2 ^ 64
few n h = omega (arith, h)

version_text : (v : ℕ) → v < 2 ^ 32 → IsUtf8 (version_word v)
version_text v h =
    IsUtf8-append (decimal (v / 65536)) _ (IsUtf8-from_ascii _ (IsAscii-decimal (v / 65536) (omega (arith, h))))
    (IsUtf8-append (codes ".") (decimal (v % 65536)) (IsUtf8-are_ascii _ refl)
    (IsUtf8-from_ascii _ (IsAscii-decimal (v % 65536) (omega (arith, h)))))

pub summaries_have_texts : SummariesHaveTexts
summaries_have_texts s h =
    let bytes : s.free * s.block < 2 ^ 64 = mul-lt s.free s.block (2 ^ 32) (2 ^ 32) h.free h.block in (
      IsUtf8-are_ascii _ refl,
      (
        integer_text s.block (few s.block h.block),
        (
          IsUtf8-are_ascii _ refl,
          (
            integer_text s.count (few s.count h.count),
            (
              IsUtf8-are_ascii _ refl,
              (
                integer_text s.free (few s.free h.free),
                (
                  IsUtf8-are_ascii _ refl,
                  (
                    integer_text (s.free * s.block) bytes,
                    (
                      IsUtf8-are_ascii _ refl,
                      (
                        integer_text s.directories h.directories,
                        (
                          IsUtf8-are_ascii _ refl,
                          (
                            integer_text s.files h.files,
                            (
                              IsUtf8-are_ascii _ refl,
                              (
                                version_text s.version h.version,
                                (
                                  IsUtf8-are_ascii _ refl,
                                  (
                                    integer_text s.limits.name (few s.limits.name h.name),
                                    (
                                      IsUtf8-are_ascii _ refl,
                                      (
                                        integer_text s.limits.file (few s.limits.file h.file),
                                        (
                                          IsUtf8-are_ascii _ refl,
                                          (
                                            integer_text s.limits.attribute (few s.limits.attribute h.attribute),
                                            (IsUtf8-are_ascii _ refl, (integer_text s.inline_longest h.inline, tt)),
                                          ),
                                        ),
                                      ),
                                    ),
                                  ),
                                ),
                              ),
                            ),
                          ),
                        ),
                      ),
                    ),
                  ),
                ),
              ),
            ),
          ),
        ),
      ),
    )

pub limits_have_texts : LimitsHaveTexts
limits_have_texts limits name file attribute = (
  IsUtf8-are_ascii _ refl,
  (
    IsUtf8-are_ascii _ refl,
    (
      IsUtf8-are_ascii _ refl,
      (
        integer_text limits.name name,
        (
          IsUtf8-are_ascii _ refl,
          (
            integer_text limits.file file,
            (
              IsUtf8-are_ascii _ refl,
              (integer_text limits.attribute attribute, tt),
            ),
          ),
        ),
      ),
    ),
  ),
)
