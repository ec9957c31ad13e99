-- What is known of the thread of an image that differs in some blocks: each part of which no changed block is stands still.
use Rattle.std.proofs.Common.{◌≡◌, ℕ, ◌<◌, ◌||◌, Bool, true, false, List, [], ◌∷◌, ◌++◌, length, map, take, drop, get_or, append_assoc, refl, ap, sym, ◌∙◌, subst, arith}
use Rattle.std.specs.Prelude.{All, Contains, nat_lt, replicate, reverse, slice_index_or}
use Rattle.std.specs.List.{AllByRecursion}
use Rattle.std.proofs.lemmas.Bool.Decides.{nat_tests}
use Rattle.std.proofs.lemmas.List.{get_or-replicate, length-replicate, map-append, reverse-append, take-append-drop}
use Rattle.std.proofs.lemmas.List.Elements.{All-append, All-cons, All-contains, All-from_recursion, All-head, All-map, All-nil, All-tail, All-weaker, Contains-append_left, Contains-push}
use Rattle.lfs_block.specs.Disk.{Disk, IsDisk, block_of}
use Rattle.lfs_file.specs.Laws.{AgreeOn, ContentStays, FoundStay}
use Rattle.lfs_meta.specs.Attribute.{Attributes}
use Rattle.lfs_meta.specs.Laws.{PartsDependOnTheirBlocks}
use Rattle.lfs_meta.specs.declared.tail.Tail.{Tail}
use Rattle.lfs_fs.specs.declared.limits.Limits.{Limits}
use Rattle.lfs_fs.specs.DiskBut.{IsDiskBut}
use Rattle.lfs_fs.specs.MarksMore.{MarksMore}
use Rattle.lfs_fs.specs.Uses.{times}
use Rattle.lfs_fs.specs.Entry.{Body, Inline, Chain, Directory_at, Entry}
use Rattle.lfs_fs.specs.Directory.{Part, Directory, entries, parts, thread}
use Rattle.lfs_fs.specs.Volume.{Volume}
use Rattle.lfs_fs.specs.Thread.{Link, hard_to, links, links_of, tail_to}
use Rattle.lfs_fs.specs.Sound.{IsProper, IsSound, Rise}
use Rattle.lfs_fs.specs.Reading.{Reading, reading_of}
use Rattle.lfs_fs.specs.Stored.{HoldsLinks}
use Rattle.lfs_fs.specs.Alike.{ChainStays, PartStays}
use Rattle.lfs_fs.specs.Outlined.{outlined_body, outlined_directories, outlined_entry, outlined_part}
use Rattle.lfs_fs.specs.Gathering.{part_entries}
use Rattle.lfs_fs.specs.NameOrder.{precedes}
use Rattle.lfs_fs.specs.Reread.{AreKnown, BodyIsLeft, IsKnownLink, IsLeft, IsOutlineBut, PartIsLeft, outlined_link}
use Rattle.lfs_fs.proofs.AlikeLemmas.{stored_links_stay}
use Rattle.lfs_fs.proofs.BothSidesLemmas.{held_are_held_by_links}
use Rattle.lfs_fs.proofs.ChainedLemmas.{parts_of_links}

-- ---- blocks, files and parts that stay

none_of : (n : ℕ) → false ≡ (false || nat_lt 0 n) → n ≡ 0
none_of n is = grind (arith, nat_tests)

module _ (d e : Disk) (changed : List ℕ) (flags : List Bool) (but : IsDiskBut changed d e)
    (marks : MarksMore (replicate d.count false) flags (λ b. times b changed)) where
  unchanged : (b : ℕ) → IsLeft flags b → times b changed ≡ 0
  unchanged b left =
      let long : length (replicate d.count false) ≡ d.count = length-replicate d.count false in
      let within : b < d.count = omega (arith, marks.len, long, left.0) in
      let old : slice_index_or (replicate d.count false) b false ≡ false = get_or-replicate d.count b false false within in
      none_of (times b changed) (sym left.1 ∙ marks.marks b (omega (arith, within, long))
      ∙ ap (λ (t : Bool). t || nat_lt 0 (times b changed)) old)

  block_left : (b : ℕ) → IsLeft flags b → block_of d b ≡ block_of e b
  block_left b left = sym (but.others b (unchanged b left))

  module _ (depend : PartsDependOnTheirBlocks) (found : FoundStay) (content : ContentStays) (disk : IsDisk d) where
    body_left : (body : Body) → BodyIsLeft flags body → ChainStays (reading_of d) (reading_of e) body
    body_left (Inline bytes) left = tt
    body_left (Chain blocks bytes) left =
        let agree : AgreeOn blocks d e = record {
          size = sym but.disk.size;
          count = omega (arith, but.disk.count);
          same = All-weaker (IsLeft flags) (λ (b : ℕ). block_of d b ≡ block_of e b) block_left blocks
              (All-from_recursion (IsLeft flags) blocks left);
        } in
        λ head size is. (found d e head size blocks disk agree is, sym (content d e size blocks agree))
    body_left (Directory_at pair) left = tt

    body_outlined : (body : Body) → BodyIsLeft flags (outlined_body body) → BodyIsLeft flags body
    body_outlined (Inline bytes) left = left
    body_outlined (Chain blocks bytes) left = left
    body_outlined (Directory_at pair) left = left

    files_left : (es : List Entry) → AllByRecursion (λ (x : Entry). BodyIsLeft flags x.body) (map outlined_entry es)
        → All (λ (x : Entry). ChainStays (reading_of d) (reading_of e) x.body) es
    files_left [] left = All-nil (λ (x : Entry). ChainStays (reading_of d) (reading_of e) x.body)
    files_left (x ∷ es) left =
        All-cons (λ (y : Entry). ChainStays (reading_of d) (reading_of e) y.body) x es (body_left x.body (body_outlined x.body left.0))
        (files_left es left.1)

    pub part_left : (p : Part) → PartIsLeft flags (outlined_part p) → PartStays (reading_of d) (reading_of e) p
    part_left p left = record {
      part = sym (depend d e p.pair (block_left p.pair.0 left.0, block_left p.pair.1 left.1)).2;
      chains = files_left p.entries left.2;
    }

-- ---- what holds of a directory's entries holds of those of its parts

first_ones : {X : Type 0} (P : X → Type 0) (xs ys : List X) → All P (xs ++ ys) → All P xs
first_ones P [] ys all = All-nil P
first_ones P (x ∷ xs) ys all = All-cons P x xs (All-head P x (xs ++ ys) all) (first_ones P xs ys (All-tail P x (xs ++ ys) all))

both_rise : (es fs : List Entry) → Rise (es ++ fs) → Rise es × Rise fs
both_rise [] fs rise = (tt, rise)
both_rise (e ∷ es) fs rise =
    let rest = both_rise es fs rise.1 in
    ((first_ones (λ (f : Entry). precedes e.name f.name ≡ true) es fs rise.0, rest.0), rest.1)

all_both : (P : Entry → Type 0) (es fs : List Entry) → All P (es ++ fs) → All P es × All P fs
all_both P [] fs all = (All-nil P, all)
all_both P (e ∷ es) fs all =
    let rest = all_both P es fs (All-tail P e (es ++ fs) all) in
    (All-cons P e es (All-head P e (es ++ fs) all) rest.0, rest.1)

module _ (Q : List Entry → Type 0) (both : (es fs : List Entry) → Q (es ++ fs) → Q es × Q fs) where
  each_part : (ps : List Part) → Q (part_entries ps) → All (λ (p : Part). Q p.entries) ps
  each_part [] holds = All-nil (λ (p : Part). Q p.entries)
  each_part (p ∷ ps) holds =
      let two = both p.entries (part_entries ps) holds in
      All-cons (λ (x : Part). Q x.entries) p ps two.0 (each_part ps two.1)

  all_parts : (ds : List Directory) → All (λ (d : Directory). Q (entries d)) ds → All (λ (p : Part). Q p.entries) (thread ds)
  all_parts [] all = All-nil (λ (p : Part). Q p.entries)
  all_parts (d ∷ ds) all =
      All-append (λ (p : Part). Q p.entries) (parts d) (thread ds)
      (each_part (parts d) (All-head (λ (x : Directory). Q (entries x)) d ds all))
      (all_parts ds (All-tail (λ (x : Directory). Q (entries x)) d ds all))

  all_links : (ds : List Directory) → All (λ (d : Directory). Q (entries d)) ds → All (λ (l : Link). Q l.part.entries) (links ds)
  all_links ds all = of_mapped (λ (p : Part). Q p.entries) (links ds)
      (subst (All (λ (p : Part). Q p.entries)) (sym (parts_of_links ds)) (all_parts ds all))
    where
      of_mapped : (P : Part → Type 0) (ls : List Link) → All P (map (λ (l : Link). l.part) ls) → All (λ (l : Link). P l.part) ls
      of_mapped P [] all = All-nil (λ (l : Link). P l.part)
      of_mapped P (l ∷ ls) all =
          All-cons (λ (x : Link). P x.part) l ls (All-head P l.part (map (λ (x : Link). x.part) ls) all)
          (of_mapped P ls (All-tail P l.part (map (λ (x : Link). x.part) ls) all))

-- ---- the links of an outline

links_of_outlined : (p : Part) (ps : List Part) (tail : Tail) → links_of (outlined_part p) (map outlined_part ps) tail
    ≡ map outlined_link (links_of p ps tail)
links_of_outlined p [] tail = refl
links_of_outlined p (q ∷ ps) tail = ap (λ (ls : List Link). outlined_link (record { part = p; tail = hard_to q.pair }) ∷ ls)
    (links_of_outlined q ps tail)

tail_outlined : (ds : List Directory) → tail_to (outlined_directories ds) ≡ tail_to ds
tail_outlined [] = refl
tail_outlined (d ∷ ds) = refl

links_outlined : (ds : List Directory) → links (outlined_directories ds) ≡ map outlined_link (links ds)
links_outlined [] = refl
links_outlined (d ∷ ds) =
    ap (λ (t : Tail). links_of (outlined_part d.first) (map outlined_part d.more) t ++ links (outlined_directories ds)) (tail_outlined ds)
    ∙ ap (λ (ls : List Link). ls ++ links (outlined_directories ds)) (links_of_outlined d.first d.more (tail_to ds))
    ∙ ap (λ (ls : List Link). map outlined_link (links_of d.first d.more (tail_to ds)) ++ ls) (links_outlined ds)
    ∙ sym (map-append outlined_link (links_of d.first d.more (tail_to ds)) (links ds))

all_reversed : (P : Link → Type 0) (ls : List Link) → All P ls → All P (reverse ls)
all_reversed P [] all = All-nil P
all_reversed P (l ∷ ls) all =
    subst (All P) (sym (reverse-append (l ∷ []) ls))
    (All-append P (reverse ls) (l ∷ []) (all_reversed P ls (All-tail P l ls all)) (All-cons P l [] (All-head P l ls all) (All-nil P)))

-- ---- the parts of a thread, the last one first

links_of_more : (p : Part) (ps : List Part) (q : Part) (tail : Tail)
    → links_of p (ps ++ q ∷ []) tail ≡ links_of p ps (hard_to q.pair) ++ record { part = q; tail = tail } ∷ []
links_of_more p [] q tail = refl
links_of_more p (r ∷ ps) q tail = ap (λ (ls : List Link). record { part = p; tail = hard_to r.pair } ∷ ls) (links_of_more r ps q tail)

-- the last part of a directory is put behind those so far
pub last_part : (so_far : List Link) (p : Part) (ps : List Part) (q : Part) (tail : Tail)
    → (so_far ++ record { part = q; tail = tail } ∷ []) ++ reverse (links_of p ps (hard_to q.pair))
    ≡ so_far ++ reverse (links_of p (ps ++ q ∷ []) tail)
last_part so_far p ps q tail =
    let k : Link = record { part = q; tail = tail } in
    append_assoc so_far (k ∷ []) (reverse (links_of p ps (hard_to q.pair)))
    ∙ ap (λ (ls : List Link). so_far ++ ls) (sym (reverse-append (links_of p ps (hard_to q.pair)) (k ∷ [])))
    ∙ ap (λ (ls : List Link). so_far ++ reverse ls) (sym (links_of_more p ps q tail))

-- and so is a directory
pub directory_before : (d : Directory) (ds : List Directory) (so_far : List Link) → so_far ≡ reverse (links ds)
    → so_far ++ reverse (links_of d.first d.more (tail_to ds)) ≡ reverse (links (d ∷ ds))
directory_before d ds so_far is = ap (λ (ls : List Link). ls ++ reverse (links_of d.first d.more (tail_to ds))) is
    ∙ sym (reverse-append (links_of d.first d.more (tail_to ds)) (links ds))

-- what is taken off was there, and what is left begins what was
pub taken_off : (ks rest : List Link) (n : ℕ) (k : Link) → take n ks ≡ rest ++ k ∷ [] → Contains ks k × ((gone : List Link) × (ks ≡ rest ++ gone))
taken_off ks rest n k is =
    let complete : ks ≡ (rest ++ k ∷ []) ++ drop n ks = sym (take-append-drop n ks) ∙ ap (λ (ls : List Link). ls ++ drop n ks) is in (
      subst (λ (ls : List Link). Contains ls k) (sym complete) (Contains-append_left (rest ++ k ∷ []) (drop n ks) k (Contains-push rest k)),
      (k ∷ drop n ks, complete ∙ append_assoc rest (k ∷ []) (drop n ks)),
    )

-- ---- what is known

-- of an image that holds a volume
known_of : PartsDependOnTheirBlocks → FoundStay → ContentStays → (d e : Disk) (changed : List ℕ) (flags : List Bool) (v : Volume)
    → IsDisk d → HoldsLinks (reading_of d) v → IsSound v → IsDiskBut changed d e
    → MarksMore (replicate d.count false) flags (λ b. times b changed)
    → AreKnown (reading_of e) v.limits v.attributes flags (reverse (links (outlined_directories v.directories)))
known_of depend found content d e changed flags v disk held sound but marks =
    let ls : List Link = links v.directories in
    let r = reading_of d in
    let q = reading_of e in
    let Known : Link → Type 0 = λ k. PartIsLeft flags k.part → IsKnownLink q v.limits held.bytes v.attributes k in
    let rises = all_links Rise both_rise v.directories sound.order in
    let proper = all_links (All (IsProper v.limits)) (all_both (IsProper v.limits)) v.directories sound.proper in
    let each : All Known (map outlined_link ls) = All-map Known outlined_link ls (λ i l within left. record {
      link = get_or ls i l;
      is = refl;
      stored = stored_links_stay r q held.bytes v.attributes (get_or ls i l)
          (part_left d e changed flags but marks depend found content disk (get_or ls i l).part left) (held.each i l within);
      rise = rises i l within;
      proper = proper i l within;
    }) in
    record {
      bytes = held.bytes;
      judged = record {
        bytes = held.bytes;
        is = record { kind = refl; name = refl; body = refl; len = held.superblock.len };
        header = record {
          version = held.superblock.header.version;
          size_is = held.superblock.header.size_is ∙ held.size ∙ sym but.disk.size;
          count_is = held.superblock.header.count_is ∙ held.count ∙ sym but.disk.count;
          limits = held.superblock.header.limits;
        };
        limits_are = held.superblock.limits;
        fit = sound.root_attributes;
      };
      each = subst (λ (ks : List Link). All Known (reverse ks)) (sym (links_outlined v.directories))
          (all_reversed Known (map outlined_link ls) each);
    }

pub are_known : PartsDependOnTheirBlocks → FoundStay → ContentStays → (e : Disk) (changed : List ℕ) (flags : List Bool) (o : Volume)
    (ks : List Link) → (h : IsOutlineBut changed e o) → MarksMore (replicate o.count false) flags (λ b. times b changed)
    → ks ≡ reverse (links o.directories) → AreKnown (reading_of e) o.limits o.attributes flags ks
are_known depend found content e changed flags o ks h marks is =
    let v = h.outline.volume in
    let held = held_are_held_by_links (reading_of h.before) v h.outline.holds in
    let count : o.count ≡ h.before.count = ap (λ (x : Volume). x.count) h.outline.outline ∙ held.count in
    let known = known_of depend found content h.before e changed flags v h.disk held h.outline.sound h.but
    (subst (λ (n : ℕ). MarksMore (replicate n false) flags (λ b. times b changed)) count marks) in
    rw (is, h.outline.outline) known

-- the size and the count of the image
pub known_geometry : (e : Disk) (changed : List ℕ) (o : Volume) → IsOutlineBut changed e o → (o.size ≡ e.size) × (o.count ≡ e.count)
known_geometry e changed o h =
    let held = held_are_held_by_links (reading_of h.before) h.outline.volume h.outline.holds in (
      ap (λ (x : Volume). x.size) h.outline.outline ∙ held.size ∙ sym h.but.disk.size,
      ap (λ (x : Volume). x.count) h.outline.outline ∙ held.count ∙ sym h.but.disk.count,
    )

-- what is left of it, once some are taken off
pub known_left : (r : Reading) (limits : Limits) (attributes : Attributes) (flags same : List Bool) (ks rest : List Link)
    → AreKnown r limits attributes flags ks → (gone : List Link) × (ks ≡ rest ++ gone) → same ≡ flags → AreKnown r limits attributes same rest
known_left r limits attributes flags same ks rest h less is = rw is (record {
  bytes = h.bytes;
  judged = h.judged;
  each = first_ones (λ (k : Link). PartIsLeft flags k.part → IsKnownLink r limits h.bytes attributes k) rest less.0
      (subst (All (λ (k : Link). PartIsLeft flags k.part → IsKnownLink r limits h.bytes attributes k)) less.1 h.each);
})

-- one of them whose part no changed block is of
pub known_link : (r : Reading) (limits : Limits) (attributes : Attributes) (flags : List Bool) (ks : List Link) (k : Link)
    → (h : AreKnown r limits attributes flags ks) → Contains ks k → PartIsLeft flags k.part
    → IsKnownLink r limits h.bytes attributes k
known_link r limits attributes flags ks k h there left =
    All-contains (λ (x : Link). PartIsLeft flags x.part → IsKnownLink r limits h.bytes attributes x) ks k h.each there left
