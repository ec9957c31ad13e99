-- The superblock of an image that holds a volume is the one that is made of the volume's size, count and limits.
use Rattle.std.proofs.Common.{◌≡◌, ℕ, ◌<◌, List, [], ◌∷◌, ◌++◌, take, drop, refl, ap, sym, ◌∙◌, subst, arith}
use Rattle.std.specs.Prelude.{All}
use Rattle.std.specs.Int.{w32, from_le_bytes}
use Rattle.std.proofs.lemmas.List.{drop-drop}
use Rattle.std.proofs.lemmas.Nat.{from_le_bytes-to_le_bytes_4}
use Rattle.std.proofs.lemmas.List.Elements.{All-head}
use Rattle.lfs_block.specs.Bytes.{IsBytes}
use Rattle.lfs_block.specs.Disk.{Disk, IsDisk}
use Rattle.lfs_tag.specs.Laws.{BlocksHaveALog}
use Rattle.lfs_meta.specs.declared.tail.Tail.{Tail}
use Rattle.lfs_meta.specs.Attribute.{Attributes}
use Rattle.lfs_meta.specs.Body.{Pair}
use Rattle.lfs_meta.specs.Laws.{LiveBlocksAreRead}
use Rattle.lfs_fs.specs.declared.limits.Limits.{Limits}
use Rattle.lfs_fs.specs.Directory.{Part, Directory}
use Rattle.lfs_fs.specs.Pair.{root}
use Rattle.lfs_fs.specs.Reading.{Reading, reading_of}
use Rattle.lfs_fs.specs.Sound.{StartsAtRoot}
use Rattle.lfs_fs.specs.Stored.{IsStored, stored_before, SaysVolume}
use Rattle.lfs_fs.specs.Superblock.{IsLimits, header_of, superblock_entry, word_at}
use Rattle.lfs_fs.specs.Thread.{Link, links_of, links, tail_to, hard_to}
use Rattle.lfs_fs.specs.Volume.{Volume}
use Rattle.lfs_law.specs.CutWritten.{HeldBytesAreMade, MadeBytesSay}
use Rattle.lfs_law.specs.SuperblockBytes.{new_superblock_words, volume_bytes}
use Rattle.lfs_law.proofs.HeldBytes.{StoredHas, held_have, Spell, spelled}

-- ---- the root's first part

-- a part as its pair holds it, whatever its tail
record PartStored (r : Reading) (bytes : List ℕ) (attributes : Attributes) (p : Part) : Type 0 where
  tail : Tail
  stored : IsStored r bytes attributes (record { part = p; tail = tail })

first_stored : (r : Reading) (bytes : List ℕ) (attributes : Attributes) (p : Part) (ps : List Part) (tail : Tail) (ls : List Link)
    → All (IsStored r bytes attributes) (links_of p ps tail ++ ls)
    → PartStored r bytes attributes p
first_stored r bytes attributes p [] tail ls all = record {
  tail = tail;
  stored = All-head (IsStored r bytes attributes) (record { part = p; tail = tail }) ls all;
}
first_stored r bytes attributes p (q ∷ ps) tail ls all = record {
  tail = hard_to q.pair;
  stored = All-head (IsStored r bytes attributes) (record { part = p; tail = hard_to q.pair }) (links_of q ps tail ++ ls) all;
}

superblock_has : LiveBlocksAreRead → BlocksHaveALog → (d : Disk) → IsDisk d → (bytes : List ℕ) (attributes : Attributes) (p : Part)
    → p.pair ≡ root
    → PartStored (reading_of d) bytes attributes p → IsBytes bytes
superblock_has read logs d disk bytes attributes p pair first =
    let st = first.stored in
    let two = disk.geometry.count_fits.0 in
    let have : All StoredHas st.stored.entries =
    held_have read logs d p.pair st.stored disk (subst (λ (k : Pair). k.0 < d.count) (sym pair) (omega (arith, two)))
    (subst (λ (k : Pair). k.1 < d.count) (sym pair) (omega (arith, two))) st.read in
    All-head StoredHas (superblock_entry bytes attributes) st.others
    (subst (All StoredHas) (st.entries ∙ ap (λ (k : Pair). stored_before bytes attributes k st.others) pair) have)

bytes_of : LiveBlocksAreRead → BlocksHaveALog → (d : Disk) → IsDisk d → (bytes : List ℕ) (attributes : Attributes) (ds : List Directory)
    → StartsAtRoot ds
    → All (IsStored (reading_of d) bytes attributes) (links ds) → IsBytes bytes
bytes_of read logs d disk bytes attributes [] begins each = absurd begins
bytes_of read logs d disk bytes attributes (e ∷ ds) begins each =
    superblock_has read logs d disk bytes attributes e.first begins (first_stored (reading_of d) bytes attributes e.first e.more
    (tail_to ds) (links ds) each)

-- ---- its words

word_is : (xs ys : List ℕ) (w : ℕ) → xs ≡ ys → from_le_bytes w32 (take 4 ys) ≡ w → from_le_bytes w32 (take 4 xs) ≡ w
word_is xs ys w same is = ap (λ (zs : List ℕ). from_le_bytes w32 (take 4 zs)) same ∙ is

spells : (v : Volume) (bytes : List ℕ) → SaysVolume v bytes → Spell (new_superblock_words v.size v.count v.limits) bytes
spells v bytes says =
    let two : drop 4 (drop 4 bytes) ≡ drop 8 bytes = drop-drop 4 4 bytes in
    let three : drop 4 (drop 4 (drop 4 bytes)) ≡ drop 12 bytes = ap (λ (xs : List ℕ). drop 4 xs) two ∙ drop-drop 4 8 bytes in
    let four : drop 4 (drop 4 (drop 4 (drop 4 bytes))) ≡ drop 16 bytes = ap (λ (xs : List ℕ). drop 4 xs) three ∙ drop-drop 4 12 bytes in
    let five : drop 4 (drop 4 (drop 4 (drop 4 (drop 4 bytes)))) ≡ drop 20 bytes =
    ap (λ (xs : List ℕ). drop 4 xs) four ∙ drop-drop 4 16 bytes in
    let name = word_is (drop 4 (drop 4 (drop 4 bytes))) (drop 12 bytes) v.limits.name three
    (sym (ap (λ (l : Limits). l.name) says.limits)) in
    let file = word_is (drop 4 (drop 4 (drop 4 (drop 4 bytes)))) (drop 16 bytes) v.limits.file four
    (sym (ap (λ (l : Limits). l.file) says.limits)) in
    let attribute = word_is (drop 4 (drop 4 (drop 4 (drop 4 (drop 4 bytes))))) (drop 20 bytes) v.limits.attribute five
    (sym (ap (λ (l : Limits). l.attribute) says.limits)) in
    let count = word_is (drop 4 (drop 4 bytes)) (drop 8 bytes) v.count two says.header.count_is in
    (says.header.version, (says.header.size_is, (count, (name, (file, (attribute, tt))))))

pub held_bytes_are_made : LiveBlocksAreRead → BlocksHaveALog → HeldBytesAreMade
unfolding volume_bytes
held_bytes_are_made read logs d v held disk sound =
    spelled (new_superblock_words v.size v.count v.limits) held.bytes held.superblock.len
    (bytes_of read logs d disk held.bytes v.attributes v.directories sound.starts held.each)
    (spells v held.bytes held.superblock)

-- ---- what it says

abbrev limits_of : ℕ → ℕ → ℕ → Limits
limits_of name file attribute = record { name = name; file = file; attribute = attribute }

limits_said : (v : Volume) → IsLimits v.limits → v.limits ≡ (header_of (volume_bytes v) []).limits
unfolding volume_bytes
limits_said v fit =
    let name : word_at (volume_bytes v) 3 ≡ v.limits.name = from_le_bytes-to_le_bytes_4 v.limits.name (omega (arith, fit.name.1)) in
    let file : word_at (volume_bytes v) 4 ≡ v.limits.file = from_le_bytes-to_le_bytes_4 v.limits.file (omega (arith, fit.file.1)) in
    let attribute : word_at (volume_bytes v) 5 ≡ v.limits.attribute =
    from_le_bytes-to_le_bytes_4 v.limits.attribute (omega (arith, fit.attribute.1)) in
    ap (λ (n : ℕ). limits_of n v.limits.file v.limits.attribute) (sym name)
    ∙ ap (λ (n : ℕ). limits_of (word_at (volume_bytes v) 3) n v.limits.attribute) (sym file)
    ∙ ap (limits_of (word_at (volume_bytes v) 3) (word_at (volume_bytes v) 4)) (sym attribute)

pub made_bytes_say : MadeBytesSay
unfolding volume_bytes
made_bytes_say v size count fit = record {
  len = refl;
  header = record {
    version = refl;
    size_is = from_le_bytes-to_le_bytes_4 v.size size;
    count_is = from_le_bytes-to_le_bytes_4 v.count count;
    limits = subst IsLimits (limits_said v fit) fit;
  };
  limits = limits_said v fit;
}
