-- What a part's tags take of a block.
use Rattle.std.proofs.Common.{◌≡◌, ℕ, ◌+◌, ◌%◌, ◌≤◌, ◌==◌, Bool, true, false, if◌then◌else◌, List, [], ◌∷◌, ◌++◌, length, map, refl, arith}
use Rattle.std.specs.List.{list_all}
use Rattle.std.proofs.lemmas.List.Sums.{sum_by-cons, sum_by-append}
use Rattle.lfs_tag.specs.Commit.{Item}
use Rattle.lfs_tag.specs.Writing.{tags_len, committed_end}
use Rattle.lfs_meta.specs.declared.tail.Tail.{Tail}
use Rattle.lfs_meta.specs.declared.tail.Tail.TheVariants.{End, Soft, Hard}
use Rattle.lfs_meta.specs.Attribute.{Attributes}
use Rattle.lfs_meta.specs.Entry.{StoredEntry}
use Rattle.lfs_meta.specs.Part.{StoredPart}
use Rattle.lfs_pair.specs.Spelling.{name_item, body_item, attribute_item, entry_tags, entries_tags, tail_tags, delta_tags, tag_item}
use Rattle.lfs_pair.specs.Spelling.{part_tags}
use Rattle.lfs_pair.specs.Writing.{delta_weight, part_weight, tail_weight}
use Rattle.lfs_meta.specs.Weighing.{attributes_weight, weight_as_stored, weights}

abbrev item_len : Item → ℕ
item_len t = 4 + length t.content

attributes-len : (id : ℕ) (xs : Attributes) → tags_len (map (attribute_item id) xs) ≡ attributes_weight xs
attributes-len id [] = refl
attributes-len id (a ∷ xs) =
    let more : tags_len (map (attribute_item id) xs) ≡ attributes_weight xs = attributes-len id xs in
    omega (
      arith,
      more,
      sum_by-cons item_len (attribute_item id a) (map (attribute_item id) xs),
      sum_by-cons (λ (b : ℕ × List ℕ). 4 + length b.1) a xs,
    )

entry-len : (id : ℕ) (e : StoredEntry) → tags_len (entry_tags id e) ≡ weight_as_stored e
entry-len id e =
    omega (
      arith,
      attributes-len id e.attributes,
      sum_by-cons item_len (name_item id e) (body_item id e ∷ map (attribute_item id) e.attributes),
      sum_by-cons item_len (body_item id e) (map (attribute_item id) e.attributes),
    )

entries-len : (id : ℕ) (es : List StoredEntry) → tags_len (entries_tags id es) ≡ weights es
unfolding entries_tags
entries-len id [] = refl
entries-len id (e ∷ es) =
    omega (
      arith,
      entry-len id e,
      entries-len (id + 1) es,
      sum_by-append item_len (entry_tags id e) (entries_tags (id + 1) es),
      sum_by-cons weight_as_stored e es,
    )

tail-len : (tail : Tail) → tags_len (tail_tags tail) ≡ tail_weight tail
tail-len End = refl
tail-len (Soft first second) = omega arith
tail-len (Hard first second) = omega arith

either-len : (b : Bool) (t : Item) → length t.content ≡ 12 → tags_len (if b then [] else t ∷ []) ≡ (if b then 0 else 16)
either-len true t len = refl
either-len false t len = omega arith

pub weights-fit : (p : StoredPart) (size : ℕ) → size % 16 ≡ 0 → length p.delta ≡ 12 → part_weight p ≤ size
    → committed_end 4 (part_tags p) ≤ size
weights-fit p size even delta room =
    let entries : tags_len (entries_tags 0 p.entries) ≡ weights p.entries = entries-len 0 p.entries in
    let tail : tags_len (tail_tags p.tail) ≡ tail_weight p.tail = tail-len p.tail in
    let last : tags_len (delta_tags p.delta) ≡ delta_weight p.delta =
    either-len (list_all (λ b. b == 0) p.delta) (tag_item 0x7ff 0x3ff p.delta) delta in
    let front : tags_len (entries_tags 0 p.entries ++ tail_tags p.tail)
    ≡ tags_len (entries_tags 0 p.entries) + tags_len (tail_tags p.tail) =
    sum_by-append item_len (entries_tags 0 p.entries) (tail_tags p.tail) in
    let all : tags_len (part_tags p) ≡ tags_len (entries_tags 0 p.entries ++ tail_tags p.tail) + tags_len (delta_tags p.delta) =
    sum_by-append item_len (entries_tags 0 p.entries ++ tail_tags p.tail) (delta_tags p.delta) in
    let within : tags_len (part_tags p) + 12 ≤ size = omega (arith, entries, tail, last, front, all, room) in
    omega (arith, within, even)

-- no tail and no delta take more than this
tail-most : (tail : Tail) → tail_weight tail ≤ 12
tail-most End = omega arith
tail-most (Soft first second) = omega arith
tail-most (Hard first second) = omega arith

either-most : (b : Bool) → (if b then 0 else 16) ≤ 16
either-most true = omega arith
either-most false = omega arith

pub weights-most : (p : StoredPart) (size : ℕ) → weights p.entries + 40 ≤ size → part_weight p ≤ size
weights-most p size room = omega (arith, room, tail-most p.tail, either-most (list_all (λ b. b == 0) p.delta))
