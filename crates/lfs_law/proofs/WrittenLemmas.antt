-- An image of which the parts are written that a command sets holds the edited volume.
use Rattle.std.proofs.Common.{◌≡◌, ℕ, ◌+◌, ◌<◌, ◌≤◌, Bool, true, false, cond, ◌==◌, List, [], ◌∷◌, ◌++◌, refl, ap, sym, ◌∙◌, subst, arith}
use Rattle.std.proofs.Common.{inl, inr, map}
use Rattle.std.specs.Prelude.{All, Contains, sum_by}
use Rattle.std.proofs.lemmas.Bool.Decides.{nat_tests}
use Rattle.std.proofs.lemmas.List.{map-append}
use Rattle.std.proofs.lemmas.List.Elements.{All-map, All-contains, All-contains_itself, All-weaker}
use Rattle.std.proofs.lemmas.List.Concat.{flat_map-cons}
use Rattle.std.proofs.lemmas.List.Sums.{sum_by-cons, sum_by-append}
use Rattle.lfs_block.specs.Disk.{Disk, IsDisk, block_of}
use Rattle.lfs_file.specs.Laws.{AgreeOn, FoundStay, ContentStays}
use Rattle.lfs_meta.specs.Attribute.{Attributes}
use Rattle.lfs_meta.specs.Body.{Pair}
use Rattle.lfs_meta.specs.Laws.{PartsDependOnTheirBlocks}
use Rattle.lfs_meta.specs.declared.tail.Tail.{Tail}
use Rattle.lfs_fs.specs.Pair.{root}
use Rattle.lfs_fs.specs.Entry.{Body, Inline, Chain, Directory_at, Entry}
use Rattle.lfs_fs.specs.Directory.{Part, Directory, parts, thread}
use Rattle.lfs_fs.specs.Volume.{Volume}
use Rattle.lfs_fs.specs.Thread.{Link, links_of, links, tail_to, hard_to}
use Rattle.lfs_fs.specs.Uses.{times, body_uses, entry_uses, pair_uses, directory_uses}
use Rattle.lfs_fs.specs.Reading.{reading_of}
use Rattle.lfs_fs.specs.Stored.{IsStored}
use Rattle.lfs_fs.specs.Alike.{ChainStays, PartStays, StoredLinksStay, SuperblockIsOfTheRoot}
use Rattle.lfs_fs.proofs.ChainedLemmas.{parts_of_links}
use Rattle.lfs_fs.proofs.ContainsLemmas.{contains_cases, contains_mapped}
use Rattle.lfs_fs.proofs.CountLemmas.{element_le}
use Rattle.lfs_fs.proofs.MarkingLemmas.{parts_split}
use Rattle.lfs_command.specs.DirectoryEdit.{each_part}
use Rattle.lfs_command.specs.Clean.{cleaned}
use Rattle.lfs_command.specs.Kept.{IsKept}
use Rattle.lfs_law.specs.Lengthened.{HoldsParts}
use Rattle.lfs_law.specs.Written.{cleaned_link, Writes, IsEditOf, WrittenAreHeld, HeldAreClean}
use Rattle.lfs_law.proofs.Decided.{same_pair_or_not}

-- ---- parts of links

pub part_there : (ds : List Directory) (l : Link) → Contains (links ds) l → Contains (thread ds) l.part
part_there ds l there = subst (λ (ps : List Part). Contains ps l.part) (parts_of_links ds)
    (contains_mapped (λ (x : Link). x.part) (links ds) l there)

-- ---- uses, by parts

abbrev pub part_uses : ℕ → Part → ℕ
part_uses b p = pair_uses b p + sum_by (entry_uses b) p.entries

pub sum_thread : (b : ℕ) (ds : List Directory) → sum_by (part_uses b) (thread ds) ≡ sum_by (directory_uses b) ds
sum_thread b [] = refl
sum_thread b (d ∷ ds) =
    omega (
      arith,
      ap (sum_by (part_uses b)) (flat_map-cons parts d ds),
      sum_by-append (part_uses b) (parts d) (thread ds),
      parts_split b (parts d),
      sum_thread b ds,
      sum_by-cons (directory_uses b) d ds,
    )

pub two_le : {X : Type 0} (f : X → ℕ) (xs : List X) (x y : X) → Contains xs x → Contains xs y → (x ≡ y → ⊥) → f x + f y ≤ sum_by f xs
two_le f [] x y h k apart = let no : ⊥ = none_there h in absurd no
  where
    none_there : {X : Type 0} {x : X} → Contains [] x → ⊥
    none_there there = omega arith
two_le f (z ∷ zs) x y h k apart = elim (contains_cases z zs x h) [
  | inl x_first ↦ elim (contains_cases z zs y k) [
    | inl y_first ↦ absurd (apart (x_first ∙ sym y_first))
    | inr y_later ↦ (let le = element_le f zs y y_later in let same : f x ≡ f z = ap f x_first in omega (arith, le, same, sum_by-cons f z zs))
  ]
  | inr x_later ↦ elim (contains_cases z zs y k) [
    | inl y_first ↦ (let le = element_le f zs x x_later in let same : f y ≡ f z = ap f y_first in omega (arith, le, same, sum_by-cons f z zs))
    | inr y_later ↦ (let le = two_le f zs x y x_later y_later apart in omega (arith, le, sum_by-cons f z zs))
  ]
]

-- ---- what isn't set stays

-- a part that is set is another one than a part that isn't
pub set_apart : (p q : Part) → p.dirty ≡ true → q.dirty ≡ false → p ≡ q → ⊥
set_apart p q set unset same = true-false (sym set ∙ ap (λ (x : Part). x.dirty) same ∙ unset)
  where
    true-false : true ≡ false → ⊥
    true-false h = cc

block_stays : (d e : Disk) (v w : Volume) (old new : List ℕ) → IsEditOf v w → Writes d e v w old new → (p : Part)
    → Contains (thread v.directories) p → Contains (thread w.directories) p
    → p.dirty ≡ false → (b : ℕ) → 0 < part_uses b p → block_of e b ≡ block_of d b
block_stays d e v w old new edit writes p was there unset b used =
    let before : part_uses b p ≤ sum_by (part_uses b) (thread v.directories) = element_le (part_uses b) (thread v.directories) p was in
    writes.stays b (omega (arith, before, used, sum_thread b v.directories))
    (λ q set_there set.
    let both : part_uses b q + part_uses b p ≤ sum_by (part_uses b) (thread w.directories) =
    two_le (part_uses b) (thread w.directories) q p set_there there (set_apart q p set unset) in
    omega (arith, both, used, sum_thread b w.directories, edit.new_sound.once b))

pub pair_used : (p : Part) → (0 < part_uses p.pair.0 p) × (0 < part_uses p.pair.1 p)
pair_used p = (omega (arith, first p.pair), omega (arith, second p.pair))
  where
    first : (q : Pair) → 1 ≤ times q.0 (q.0 ∷ q.1 ∷ [])
    first q = grind (arith, nat_tests)

    second : (q : Pair) → 1 ≤ times q.1 (q.0 ∷ q.1 ∷ [])
    second q = grind (arith, nat_tests)

-- the blocks of a chain
pub times_there : (b : ℕ) (bs : List ℕ) → Contains bs b → 1 ≤ times b bs
times_there b bs there =
    let le = element_le (λ (x : ℕ). cond {A = ℕ} (x == b) 1 0) bs b there in
    let one : cond {A = ℕ} (b == b) 1 0 ≡ 1 = grind (arith, nat_tests) in
    omega (arith, le, one)

pub chain_by : FoundStay → ContentStays → (d e : Disk) → IsDisk d → (body : Body) → e.size ≡ d.size → d.count ≤ e.count
    → ((b : ℕ) → 0 < body_uses b body → block_of e b ≡ block_of d b) → ChainStays (reading_of d) (reading_of e) body
chain_by found content d e disk (Inline bytes) size count stays = tt
chain_by found content d e disk (Directory_at pair) size count stays = tt
chain_by found content d e disk (Chain blocks bytes) size count stays = λ head len is.
    let agree : AgreeOn blocks d e = record {
      size = sym size;
      count = count;
      same = All-weaker (Contains blocks) (λ (b : ℕ). block_of d b ≡ block_of e b)
          (λ b there. sym (stays b (omega (arith, times_there b blocks there)))) blocks (All-contains_itself blocks);
    } in
    (found d e head len blocks disk agree is, sym (content d e len blocks agree))

pub entry_used : (b : ℕ) (p : Part) (x : Entry) → Contains p.entries x → 0 < entry_uses b x → 0 < part_uses b p
entry_used b p x there used = let le = element_le (entry_uses b) p.entries x there in omega (arith, le, used)

part_stays : PartsDependOnTheirBlocks → FoundStay → ContentStays → (d e : Disk) (v w : Volume) (old new : List ℕ)
    → IsEditOf v w → Writes d e v w old new
    → (p : Part) → Contains (thread v.directories) p
    → Contains (thread w.directories) p → p.dirty ≡ false → PartStays (reading_of d) (reading_of e) p
part_stays depend found content d e v w old new edit writes p was there unset =
    let stays = block_stays d e v w old new edit writes p was there unset in
    record {
      part = sym (depend d e p.pair (sym (stays p.pair.0 (pair_used p).0), sym (stays p.pair.1 (pair_used p).1))).2;
      chains = All-weaker (Contains p.entries) (λ (x : Entry). ChainStays (reading_of d) (reading_of e) x.body)
          (λ x inside. chain_by found content d e writes.old_disk x.body writes.size (omega (arith, writes.count))
          (λ b used. stays b (entry_used b p x inside used)))
          p.entries (All-contains_itself p.entries);
    }

-- ---- the links of the edited volume

clean_itself : (l : Link) → l.part.dirty ≡ false → l ≡ cleaned_link l
clean_itself l unset = ap (λ (t : Bool). record {
  part = record {
    pair = l.part.pair;
    entries = l.part.entries;
    delta = l.part.delta;
    dirty = t;
  };
  tail = l.tail;
}) unset

link_stored_by : PartsDependOnTheirBlocks → FoundStay → ContentStays → StoredLinksStay → SuperblockIsOfTheRoot
    → (d e : Disk) (v w : Volume) (old new : List ℕ) → HoldsParts (reading_of d) v old → IsEditOf v w → Writes d e v w old new
    → (l : Link) → Contains (links w.directories) l → Contains (links v.directories) l → l.part.dirty ≡ false
    → IsStored (reading_of e) new w.attributes (cleaned_link l)
link_stored_by depend found content stay elsewhere d e v w old new held edit writes l there was unset =
    let before : IsStored (reading_of d) old v.attributes l = All-contains (IsStored (reading_of d) old v.attributes)
    (links v.directories) l held.each was in
    let after : IsStored (reading_of e) old v.attributes l =
    stay (reading_of d) (reading_of e) old v.attributes l (part_stays depend found content d e v w old new edit writes l.part
    (part_there v.directories l was)
    (part_there w.directories l there) unset) before in
    let with_superblock : IsStored (reading_of e) new w.attributes l = elim (same_pair_or_not l.part.pair root) [
      | inl is ↦
          (let kept = writes.superblock l there is unset in
          subst (λ (bytes : List ℕ). IsStored (reading_of e) bytes w.attributes l) (sym kept.1)
          (subst (λ (a : Attributes). IsStored (reading_of e) old a l) (sym kept.0) after))
      | inr other ↦ elsewhere (reading_of e) old new v.attributes w.attributes l other after
    ] in
    subst (IsStored (reading_of e) new w.attributes) (clean_itself l unset) with_superblock

link_stored : PartsDependOnTheirBlocks → FoundStay → ContentStays → StoredLinksStay → SuperblockIsOfTheRoot
    → (d e : Disk) (v w : Volume) (old new : List ℕ) → HoldsParts (reading_of d) v old
    → IsEditOf v w → Writes d e v w old new
    → (l : Link) → Contains (links w.directories) l → (t : Bool) → l.part.dirty ≡ t
    → IsStored (reading_of e) new w.attributes (cleaned_link l)
link_stored depend found content stay elsewhere d e v w old new held edit writes l there true set = writes.written l there set
link_stored depend found content stay elsewhere d e v w old new held edit writes l there false unset =
    elim (All-contains (IsKept (links v.directories)) (links w.directories) l edit.kept there) [
      | inl set ↦ absurd (set_apart l.part l.part set unset refl)
      | inr was ↦ link_stored_by depend found content stay elsewhere d e v w old new held edit writes l there was unset
    ]

clean_links_of : (p : Part) (ps : List Part) (tail : Tail) → links_of (cleaned p) (map cleaned ps) tail
    ≡ map cleaned_link (links_of p ps tail)
clean_links_of p [] tail = refl
clean_links_of p (q ∷ ps) tail = ap (λ (ls : List Link). cleaned_link (record { part = p; tail = hard_to q.pair }) ∷ ls)
    (clean_links_of q ps tail)

clean_tail : (ds : List Directory) → tail_to (map (each_part cleaned) ds) ≡ tail_to ds
clean_tail [] = refl
clean_tail (d ∷ ds) = refl

clean_links : (ds : List Directory) → links (map (each_part cleaned) ds) ≡ map cleaned_link (links ds)
clean_links [] = refl
clean_links (d ∷ ds) =
    ap (λ (t : Tail). links_of (cleaned d.first) (map cleaned d.more) t ++ links (map (each_part cleaned) ds)) (clean_tail ds)
    ∙ ap (λ (ls : List Link). ls ++ links (map (each_part cleaned) ds)) (clean_links_of d.first d.more (tail_to ds))
    ∙ ap (λ (ls : List Link). map cleaned_link (links_of d.first d.more (tail_to ds)) ++ ls) (clean_links ds)
    ∙ sym (map-append cleaned_link (links_of d.first d.more (tail_to ds)) (links ds))

pub written_are_held : PartsDependOnTheirBlocks → FoundStay → ContentStays → StoredLinksStay → SuperblockIsOfTheRoot → WrittenAreHeld
written_are_held depend found content stay elsewhere d e v w old new held says edit writes = record {
  size = edit.size ∙ held.size ∙ sym writes.size;
  count = edit.count ∙ held.count ∙ sym writes.count;
  bytes = new;
  superblock = record { len = says.len; header = says.header; limits = says.limits };
  each = subst (All (IsStored (reading_of e) new w.attributes)) (sym (clean_links w.directories))
      (All-map (IsStored (reading_of e) new w.attributes) cleaned_link (links w.directories)
      (All-weaker (Contains (links w.directories)) (λ (l : Link). IsStored (reading_of e) new w.attributes (cleaned_link l))
      (λ l there. link_stored depend found content stay elsewhere d e v w old new held edit writes l there l.part.dirty refl)
      (links w.directories) (All-contains_itself (links w.directories))));
}

pub held_are_clean : HeldAreClean
held_are_clean r v held =
    subst (All (λ (p : Part). p.dirty ≡ false)) (parts_of_links v.directories)
    (All-map (λ (p : Part). p.dirty ≡ false) (λ (l : Link). l.part) (links v.directories)
    (All-weaker (IsStored r held.bytes v.attributes) (λ (l : Link). l.part.dirty ≡ false) (λ l stored. stored.clean)
    (links v.directories) held.each))
