-- Where the links of an outline are written, its volume is.
use Rattle.std.proofs.Common.{◌≡◌, ◌≢◌, ℕ, ◌==◌, Bool, true, false, cond, List, [], ◌∷◌, ◌++◌, length, refl, ap, sym, ◌∙◌, subst, arith}
use Rattle.std.proofs.Common.{map, Some}
use Rattle.std.specs.Prelude.{All, Contains}
use Rattle.std.specs.List.{AllZip, AllByRecursion}
use Rattle.std.proofs.lemmas.Bool.Decides.{nat_tests}
use Rattle.std.proofs.lemmas.List.{length-replicate, map-append}
use Rattle.std.proofs.lemmas.List.Elements.{All-map, All-contains, All-contains_itself, All-weaker}
use Rattle.std.proofs.lemmas.List.Folds.{flat_map-map}
use Rattle.std.proofs.lemmas.List.Sums.{sum_by-cons}
use Rattle.lfs_block.specs.Change.{Change}
use Rattle.lfs_block.specs.Disk.{Disk, block_of}
use Rattle.lfs_block.specs.Patch.{ChangeSet, applied}
use Rattle.lfs_block.specs.PatchLaws.{KeptBlocks, KeptIsDisk}
use Rattle.lfs_meta.specs.declared.kind.Kind.TheVariants.{Super}
use Rattle.lfs_meta.specs.declared.tail.Tail.{Tail}
use Rattle.lfs_meta.specs.Body.{Pair}
use Rattle.lfs_meta.specs.LiveBlock.{stored_part_of}
use Rattle.lfs_pair.specs.Writing.{part_in}
use Rattle.lfs_fs.specs.AsStored.{head_of, stored_kind, stored_body, stored_entry}
use Rattle.lfs_fs.specs.Entry.{Body, Inline, Chain, Directory_at, Entry}
use Rattle.lfs_fs.specs.Directory.{Part, Directory, thread}
use Rattle.lfs_fs.specs.Outlined.{outlined_body, outlined_part, outlined_directories, outlined}
use Rattle.lfs_fs.specs.Volume.{Volume}
use Rattle.lfs_fs.specs.Thread.{Link, links_of, links, tail_to, hard_to}
use Rattle.lfs_fs.specs.Uses.{times, pair_uses}
use Rattle.lfs_fs.specs.Reading.{Reading, reading_of}
use Rattle.lfs_fs.specs.Stored.{BodyStands, StandsFor, IsStored}
use Rattle.lfs_fs.proofs.ContainsLemmas.{contains_first, contains_later, contains_mapped}
use Rattle.lfs_command.specs.Need.{is_new_to}
use Rattle.lfs_command.specs.PairChanged.{beside, is_cut_by, pair_number}
use Rattle.lfs_command.specs.PartWritten.{FirstIsFilled}
use Rattle.lfs_law.specs.Written.{cleaned_link}
use Rattle.lfs_law.specs.WrittenLinks.{changed_blocks, block_after, set_blocks, links_blocks, set_uses, link_part}
use Rattle.lfs_law.specs.WrittenLinks.{FillsFirst, IsPairWritten, MakesLink}
use Rattle.lfs_law.specs.OutlineLaws.{IsThere, WritesOutline, NewPairsAreFilled, OutlinesAreWritten, PairsAreChanged}
use Rattle.lfs_law.proofs.ChangesAt.{overlaid_none}
use Rattle.lfs_law.proofs.LinksAdded.{times_cons, times_append, written_within, one_use, set_is}
use Rattle.lfs_law.proofs.OutlineEntries.{outlined_entries}
use Rattle.lfs_law.proofs.OutlineDirectories.{outlined_parts}
use Rattle.lfs_fs.proofs.ChainedLemmas.{parts_of_links}
use Rattle.lfs_law.proofs.WrittenLemmas.{part_there}

-- ---- the links of an outline

abbrev pub outlined_link : Link → Link
outlined_link l = record { part = outlined_part l.part; tail = l.tail }

links_of_outlined : (p : Part) (ps : List Part) (tail : Tail) → links_of (outlined_part p) (outlined_parts ps) tail
    ≡ map outlined_link (links_of p ps tail)
links_of_outlined p [] tail = refl
links_of_outlined p (q ∷ ps) tail = ap (λ (ls : List Link). record { part = outlined_part p; tail = hard_to q.pair } ∷ ls)
    (links_of_outlined q ps tail)

tail_outlined : (ds : List Directory) → tail_to (outlined_directories ds) ≡ tail_to ds
tail_outlined [] = refl
tail_outlined (d ∷ ds) = refl

pub links_outlined : (ds : List Directory) → links (outlined_directories ds) ≡ map outlined_link (links ds)
links_outlined [] = refl
links_outlined (d ∷ ds) =
    ap (λ (t : Tail). links_of (outlined_part d.first) (outlined_parts d.more) t ++ links (outlined_directories ds)) (tail_outlined ds)
    ∙ ap (λ (ls : List Link). ls ++ links (outlined_directories ds)) (links_of_outlined d.first d.more (tail_to ds))
    ∙ ap (λ (ls : List Link). map outlined_link (links_of d.first d.more (tail_to ds)) ++ ls) (links_outlined ds)
    ∙ sym (map-append outlined_link (links_of d.first d.more (tail_to ds)) (links ds))

-- they are written to the same blocks
pub blocks_outlined : (cs : List Change) (is_new : Pair → Bool) (w : Volume) → links_blocks cs is_new (links (outlined w).directories)
    ≡ links_blocks cs is_new (links w.directories)
blocks_outlined cs is_new w =
    ap (links_blocks cs is_new) (links_outlined w.directories) ∙ flat_map-map (λ (l : Link). set_blocks cs is_new l.part) outlined_link
    (links w.directories)

set_uses_mapped : (n : ℕ) (ls : List Link) → set_uses n (map outlined_link ls) ≡ set_uses n ls
set_uses_mapped n [] = refl
set_uses_mapped n (l ∷ ls) = omega (
  arith,
  sum_by-cons (one_use n) (outlined_link l) (map outlined_link ls),
  sum_by-cons (one_use n) l ls,
  set_uses_mapped n ls,
)

pub set_uses_outlined : (n : ℕ) (w : Volume) → set_uses n (links (outlined w).directories) ≡ set_uses n (links w.directories)
set_uses_outlined n w = ap (set_uses n) (links_outlined w.directories) ∙ set_uses_mapped n (links w.directories)

pub outline_there : (w : Volume) (l : Link) → Contains (links w.directories) l → Contains (links (outlined w).directories) (outlined_link l)
outline_there w l there =
    subst (λ (ls : List Link). Contains ls (outlined_link l)) (sym (links_outlined w.directories))
    (contains_mapped outlined_link (links w.directories) l there)

-- ---- what isn't written

pub none_named : (n : ℕ) (cs : List Change) → times n (changed_blocks cs) ≡ 0 → AllByRecursion (λ c. c.number ≢ n) cs
none_named n [] none = tt
none_named n (c ∷ cs) none = (
  λ same. differ same (omega (arith, none, times_cons n c.number (changed_blocks cs))),
  none_named n cs (omega (arith, none, times_cons n c.number (changed_blocks cs))),
)
  where
    differ : c.number ≡ n → cond {A = ℕ} (c.number == n) 1 0 ≡ 0 → ⊥
    differ same zero_is = let one : cond {A = ℕ} (c.number == n) 1 0 ≡ 1 = grind (arith, nat_tests) in omega (arith, one, zero_is)

set_by : (cs : List Change) (is_new : Pair → Bool) (n : ℕ) (p : Part) (t : Bool) → p.dirty ≡ t → (p.dirty ≡ true → pair_uses n p ≡ 0)
    → times n (set_blocks cs is_new p) ≡ 0
set_by cs is_new n p true is unused = omega (arith, ap (times n) (set_is cs is_new p true is), unused is, written_within cs is_new p.pair n)
set_by cs is_new n p false is unused = ap (times n) (set_is cs is_new p false is)

unwritten : (cs : List Change) (is_new : Pair → Bool) (n : ℕ) (ls : List Link)
    → ((l : Link) → Contains ls l → l.part.dirty ≡ true → pair_uses n l.part ≡ 0) → times n (links_blocks cs is_new ls) ≡ 0
unwritten cs is_new n [] unused = refl
unwritten cs is_new n (l ∷ ls) unused =
    omega (
      arith,
      times_append n (set_blocks cs is_new l.part) (links_blocks cs is_new ls),
      set_by cs is_new n l.part l.part.dirty refl (unused l (contains_first l ls)),
      unwritten cs is_new n ls (λ m there. unused m (contains_later l ls m there)),
    )

-- ---- what is

pub file_or_directory : (b : Body) → stored_kind b ≢ Super
file_or_directory (Inline bytes) = λ h. cc
file_or_directory (Chain blocks bytes) = λ h. cc
file_or_directory (Directory_at pair) = λ h. cc

pub body_stands : (r : Reading) (b : Body) → IsThere r b → BodyStands r (stored_body (outlined_body b)) b
body_stands r (Inline bytes) there = refl
body_stands r (Chain blocks bytes) there =
    subst (λ (n : ℕ). (r.chain (head_of blocks) n ≡ Some blocks) × (bytes ≡ r.content n blocks))
    (sym (length-replicate (length bytes) 0)) there
body_stands r (Directory_at pair) there = refl

pub entries_stand : (r : Reading) (es : List Entry) → ((e : Entry) → Contains es e → IsThere r e.body)
    → AllZip (StandsFor r) (map stored_entry (outlined_entries es)) es
entries_stand r [] there = tt
entries_stand r (e ∷ es) there = (
  record {
    kind = file_or_directory (outlined_body e.body);
    name = refl;
    attributes = refl;
    body = body_stands r e.body (there e (contains_first e es));
  },
  entries_stand r es (λ f inside. there f (contains_later e es f inside)),
)

-- what the pair of a link holds in the patched image
read_after : KeptBlocks → (d : Disk) (v w : Volume) (old new : List ℕ) (is_new : Pair → Bool) (base : List Change)
    (p : ChangeSet)
    → WritesOutline d v w old new is_new base p → (pair : Pair)
    → stored_part_of (applied p d) pair ≡ part_in (block_after d p.changes pair.0) (block_after d p.changes pair.1)
read_after blocks d v w old new is_new base p writes pair =
    ap (λ (b : List ℕ). part_in b (block_of (applied p d) pair.1)) (blocks p d pair.0 writes.disk writes.patch writes.stands writes.keeps)
    ∙ ap (part_in (block_after d p.changes pair.0)) (blocks p d pair.1 writes.disk writes.patch writes.stands writes.keeps)

link_stored : KeptBlocks → (d : Disk) (v w : Volume) (old new : List ℕ) (is_new : Pair → Bool) (base : List Change)
    (p : ChangeSet) → WritesOutline d v w old new is_new base p
    → (l : Link) → Contains (links w.directories) l → l.part.dirty ≡ true
    → IsStored (reading_of (applied p d)) new w.attributes (cleaned_link l)
link_stored blocks d v w old new is_new base p writes l there set =
    let made : MakesLink d new w.attributes is_new p.changes (outlined_link l) =
    writes.written.makes (outlined_link l) (outline_there w l there) set in
    record {
      stored = link_part new w.attributes (outlined_link l) made.delta;
      read = read_after blocks d v w old new is_new base p writes l.part.pair ∙ made.part;
      others = map stored_entry (outlined_entries l.part.entries);
      entries = refl;
      stands = entries_stand (reading_of (applied p d)) l.part.entries (writes.there l there);
      tail = refl;
      delta = made.delta_is;
      clean = refl;
    }

pub outlines_are_written : KeptIsDisk → KeptBlocks → OutlinesAreWritten
outlines_are_written disk blocks d v w old new is_new base p writes =
    let after = disk p d writes.disk writes.patch writes.stands writes.keeps in
    record {
      old_disk = writes.disk;
      new_disk = after.disk;
      size = after.size;
      count = after.count;
      stays = λ n used none.
          let apart : times n (links_blocks p.changes is_new (links w.directories)) ≡ 0 =
          unwritten p.changes is_new n (links w.directories) (λ l there set. none l.part (part_there w.directories l there) set) in
          let unnamed : times n (changed_blocks p.changes) ≡ 0 = omega (
            arith,
            writes.written.named n,
            writes.unused n used,
            apart,
            ap (times n) (blocks_outlined p.changes is_new w),
          ) in
          blocks p d n writes.disk writes.patch writes.stands writes.keeps ∙ overlaid_none p.changes n (block_of d n) (none_named n p.changes unnamed);
      written = link_stored blocks d v w old new is_new base p writes;
      superblock = writes.superblock;
    }

-- what holds of the parts of links holds of parts
of_links : (P : Part → Type 0) (ls : List Link) → ((l : Link) → Contains ls l → P l.part) → All P (map (λ (l : Link). l.part) ls)
of_links P ls each = All-map P (λ (l : Link). l.part) ls (All-weaker (Contains ls) (λ (l : Link). P l.part) each ls (All-contains_itself ls))

pub new_pairs_are_filled : KeptIsDisk → KeptBlocks → NewPairsAreFilled
new_pairs_are_filled disk blocks d v w old new base p writes q there = All-contains Filled (thread w.directories) q
    (subst (All Filled) (parts_of_links w.directories) (of_links Filled (links w.directories) of_link)) there
  where
    Filled : Part → Type 0
    Filled x = x.dirty ≡ true → is_new_to v x.pair ≡ true
        → FirstIsFilled (applied p d).size (block_of (applied p d) x.pair.0) (block_of (applied p d) x.pair.1)

    of_link : (l : Link) → Contains (links w.directories) l → Filled l.part
    of_link l inside set is_new =
        let made : MakesLink d new w.attributes (is_new_to v) p.changes (outlined_link l) =
        writes.written.makes (outlined_link l) (outline_there w l inside) set in
        let first : FillsFirst d p.changes l.part.pair = made.filled is_new in
        let at : (n : ℕ) → block_of (applied p d) n ≡ block_after d p.changes n =
        λ n. blocks p d n writes.disk writes.patch writes.stands writes.keeps in
        subst (λ (n : ℕ). FirstIsFilled n (block_of (applied p d) l.part.pair.0) (block_of (applied p d) l.part.pair.1))
        (sym (disk p d writes.disk writes.patch writes.stands writes.keeps).size)
        (subst (λ (b : List ℕ). FirstIsFilled d.size b (block_of (applied p d) l.part.pair.1)) (sym (at l.part.pair.0))
        (subst (FirstIsFilled d.size (block_after d p.changes l.part.pair.0)) (sym (at l.part.pair.1)) first))

pub pairs_are_changed : KeptBlocks → PairsAreChanged
pairs_are_changed blocks d v w old new base p forced writes changed l there set stands =
    let is_cut : Bool = is_cut_by (is_new_to v) l.tail in
    let written : IsPairWritten d is_cut forced l.part.pair p.changes = changed (outlined_link l) (outline_there w l there) set stands in
    let n : ℕ = pair_number d is_cut forced l.part.pair written.part in
    record {
      part = written.part;
      holds = read_after blocks d v w old new (is_new_to v) base p writes l.part.pair ∙ written.holds;
      here = blocks p d n writes.disk writes.patch writes.stands writes.keeps ∙ written.here;
      there = blocks p d (beside l.part.pair n) writes.disk writes.patch writes.stands writes.keeps ∙ written.there;
    }
