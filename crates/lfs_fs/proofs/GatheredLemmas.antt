-- What is gathered of a thread is the volume that the image holds.
use Rattle.std.proofs.Common.{◌≡◌, ◌≢◌, ℕ, ◌+◌, Bool, false, List, [], ◌∷◌, ◌++◌, length, map, Some, zero, suc, refl, ap, sym, ◌∙◌, subst}
use Rattle.std.proofs.Common.{arith}
use Rattle.std.specs.Prelude.{All, Contains, flat_map, sum_by, bit_xor}
use Rattle.std.proofs.lemmas.List.Elements.{All-cons, All-nil, All-head, All-tail}
use Rattle.std.proofs.lemmas.List.Sums.{sum_by-cons}
use Rattle.lfs_block.specs.Disk.{Disk}
use Rattle.lfs_meta.specs.declared.kind.Kind.{Kind}
use Rattle.lfs_meta.specs.declared.kind.Kind.TheVariants.{Super}
use Rattle.lfs_meta.specs.Body.{Pair}
use Rattle.lfs_meta.specs.Entry.{StoredEntry}
use Rattle.lfs_meta.specs.Part.{StoredPart}
use Rattle.lfs_fs.specs.declared.limits.Limits.{Limits}
use Rattle.lfs_fs.specs.declared.gathering.Gathered.{Gathered}
use Rattle.lfs_fs.specs.Pair.{root}
use Rattle.lfs_fs.specs.Entry.{Entry}
use Rattle.lfs_fs.specs.Directory.{Directory, entries, thread}
use Rattle.lfs_fs.specs.Volume.{Volume}
use Rattle.lfs_fs.specs.Uses.{uses}
use Rattle.lfs_fs.specs.Used.{Marks}
use Rattle.lfs_fs.specs.State.{delta_of}
use Rattle.lfs_fs.specs.Thread.{Link, pieces}
use Rattle.lfs_fs.specs.Sound.{IsProper, Rise, AreAttributes}
use Rattle.lfs_fs.specs.Reading.{Reading, reading_of}
use Rattle.lfs_fs.specs.Front.{IsThread, pair_names, pairs_name, IsFront}
use Rattle.lfs_fs.specs.Superblock.{Header, HasSuperblock, IsSuperblock, header_of}
use Rattle.lfs_fs.specs.Held.{resolved_as, resolved, link_of, link_at, directories_at, volume_at}
use Rattle.lfs_fs.specs.Holds.{Holds, IsResolved}
use Rattle.lfs_fs.specs.Outlined.{outlined_directories}
use Rattle.lfs_fs.specs.Gathering.{PairPart, delta_from, link_from, stored_uses, parts_use, IsProperPart, KeepsParts}
use Rattle.lfs_fs.specs.ThreadRead.{pairs_of, IsPartRead}
use Rattle.lfs_fs.specs.Judged.{SaysLimits, with_entries}
use Rattle.lfs_fs.specs.Gathered.{IsSoundUnwalked, IsGathered}
use Rattle.lfs_fs.proofs.SuperblockLemmas.{super_by}
use Rattle.lfs_fs.proofs.CountLemmas.{part_uses, uses_at, link_pair}
use Rattle.lfs_fs.proofs.ThreadReadLemmas.{marked_once, marked_within}
use Rattle.lfs_fs.proofs.FoldersLemmas.{starts_at_root, each_entry, thread_of_pieces}
use Rattle.lfs_fs.proofs.OutlinedLemmas.{all_rise}

-- ---- the first part

-- a front whose first part begins with this entry
pub record RootRead (r : Reading) (p : PairPart) (e : StoredEntry) (others : List StoredEntry) (rest : List PairPart) : Type 0 where
  pub at : p.0 ≡ root
  pub part : r.part root ≡ Some (with_entries p (e ∷ others)).1
  pub later : All (IsPartRead r) rest
  pub front : IsFront r (p.0 ∷ pairs_of rest)

pub root_superblock : (r : Reading) (p : PairPart) (e : StoredEntry) (others : List StoredEntry) (rest : List PairPart)
    (bytes : List ℕ) → RootRead r p e others rest → IsSuperblock e bytes → HasSuperblock r bytes e.attributes
root_superblock r p e others rest bytes h is = record {
  part = (with_entries p (e ∷ others)).1;
  read = h.part;
  others = others;
  is = ap (λ (x : StoredEntry). x ∷ others) (super_by e bytes is);
  len = is.len;
}

-- ---- the links

pub later_links : (r : Reading) (ps : List PairPart) → All (IsPartRead r) ps → map (link_from r) ps ≡ map (link_at r) (pairs_of ps)
later_links r [] all = refl
later_links r (p ∷ ps) all =
    let here : link_from r p ≡ link_at r p.0 = ap (link_of r p.0) (sym (All-head (IsPartRead r) p ps all).read) in
    ap (λ (l : Link). l ∷ map (link_from r) ps) here ∙ ap (λ (ls : List Link). link_at r p.0 ∷ ls)
    (later_links r ps (All-tail (IsPartRead r) p ps all))

none_for : (r : Reading) (e : StoredEntry) (others : List StoredEntry) → e.kind ≡ Super
    → flat_map (resolved r) others ≡ flat_map (resolved r) (e ∷ others)
none_for r e others kind = ap (λ (k : Kind). resolved_as r e k ++ flat_map (resolved r) others) (sym kind)

-- a superblock stands for nothing
pub same_links : (r : Reading) (p : PairPart) (e : StoredEntry) (others : List StoredEntry) (rest : List PairPart)
    → RootRead r p e others rest → e.kind ≡ Super
    → map (link_from r) (with_entries p others ∷ rest) ≡ map (link_at r) (p.0 ∷ pairs_of rest)
same_links r p e others rest h kind =
    let read : r.part p.0 ≡ Some (with_entries p (e ∷ others)).1 = ap r.part h.at ∙ h.part in
    let here : link_from r (with_entries p others) ≡ link_from r (with_entries p (e ∷ others)) =
    ap (λ (es : List Entry). record {
      part = record { pair = p.0; entries = es; delta = (link_from r p).part.delta; dirty = false };
      tail = p.1.tail;
    }) (none_for r e others kind) in
    ap (λ (l : Link). l ∷ map (link_from r) rest) (here ∙ ap (link_of r p.0) (sym read))
    ∙ ap (λ (ls : List Link). link_at r p.0 ∷ ls) (later_links r rest h.later)

-- ---- uses, deltas and pairs

links_use : (r : Reading) (b : ℕ) (ps : List PairPart) → sum_by (λ (l : Link). part_uses b l.part) (map (link_from r) ps)
    ≡ pairs_name b (pairs_of ps) + parts_use r b ps
links_use r b [] = refl
links_use r b (p ∷ ps) =
    let rest = links_use r b ps in
    omega (
      arith,
      sum_by-cons (λ (l : Link). part_uses b l.part) (link_from r p) (map (link_from r) ps),
      sum_by-cons (pair_names b) p.0 (pairs_of ps),
      sum_by-cons (λ (q : PairPart). stored_uses r b q.1.entries) p ps,
    )

pub uses_are : (r : Reading) (header : Header) (b : ℕ) (ps : List PairPart) (pairs : List Pair)
    → map (link_from r) ps ≡ map (link_at r) pairs → pairs_of ps ≡ pairs
    → uses b (volume_at r header pairs) ≡ pairs_name b pairs + parts_use r b ps
uses_are r header b ps pairs links are =
    uses_at r header b pairs
    ∙ ap (sum_by (λ (l : Link). part_uses b l.part)) (sym links)
    ∙ links_use r b ps
    ∙ ap (λ (x : List Pair). pairs_name b x + parts_use r b ps) are

deltas_are : (r : Reading) (ps : List PairPart) → delta_of (map (λ (l : Link). l.part) (map (link_from r) ps)) ≡ delta_from ps
deltas_are r [] = refl
deltas_are r (p ∷ ps) = ap (bit_xor (link_from r p).part.delta) (deltas_are r ps)

pub state_is : (r : Reading) (ps : List PairPart) → delta_of (thread (pieces (map (link_from r) ps))) ≡ delta_from ps
state_is r ps = ap delta_of (thread_of_pieces (map (link_from r) ps)) ∙ deltas_are r ps

-- ---- entries

proper_links : (r : Reading) (limits : Limits) (ps : List PairPart) → All (IsProperPart r limits) ps
    → All (λ (l : Link). All (IsProper limits) l.part.entries) (map (link_from r) ps)
proper_links r limits [] all = All-nil (λ (l : Link). All (IsProper limits) l.part.entries)
proper_links r limits (p ∷ ps) all =
    All-cons (λ (l : Link). All (IsProper limits) l.part.entries) (link_from r p) (map (link_from r) ps)
    (All-head (IsProperPart r limits) p ps all).proper
    (proper_links r limits ps (All-tail (IsProperPart r limits) p ps all))

resolved_in : (r : Reading) (limits : Limits) (ps : List PairPart) (pair : Pair) (s : StoredPart) → All (IsPartRead r) ps
    → All (IsProperPart r limits) ps → Contains (pairs_of ps) pair → r.part pair ≡ Some s → All (IsResolved r) s.entries
resolved_in r limits [] pair s reads all there is = absurd (omega arith)
resolved_in r limits (p ∷ ps) pair s reads all (zero, within, at) is =
    let read : r.part p.0 ≡ Some p.1 = (All-head (IsPartRead r) p ps reads).read in
    let same : p.1 ≡ s = cc in
    subst (λ (x : StoredPart). All (IsResolved r) x.entries) same (All-head (IsProperPart r limits) p ps all).resolved_all
resolved_in r limits (p ∷ ps) pair s reads all (suc k, within, at) is =
    resolved_in r limits ps pair s (All-tail (IsPartRead r) p ps reads) (All-tail (IsProperPart r limits) p ps all) (k, omega arith, at) is

later_one : (first : Pair) (ps : List Pair) (pair : Pair) → Contains (first ∷ ps) pair → pair ≢ first → Contains ps pair
later_one first ps pair (zero, within, at) other = absurd (other (sym at))
later_one first ps pair (suc k, within, at) other = (k, omega arith, at)

-- ---- all together

-- what was found on the way
pub record Found (r : Reading) (limits : Limits) (used : List Bool) (p : PairPart) (e : StoredEntry) (others : List StoredEntry)
    (rest : List PairPart) (ds : List Directory) : Type 0 where
  pub read : RootRead r p e others rest
  pub is_thread : IsThread r (p.0 ∷ pairs_of rest)
  pub judged : SaysLimits r.size r.count limits e
  pub state : delta_from (with_entries p others ∷ rest) ≡ 0
  pub kept : KeepsParts r limits (λ b. pairs_name b (p.0 ∷ pairs_of rest)) used (with_entries p others ∷ rest) ds

-- the volume that the image holds
abbrev pub found_volume : Reading → List ℕ → StoredEntry → PairPart → List PairPart → Volume
found_volume r bytes e p rest = volume_at r (header_of bytes e.attributes) (p.0 ∷ pairs_of rest)

pub found_holds : (r : Reading) (limits : Limits) (used : List Bool) (p : PairPart) (e : StoredEntry) (others : List StoredEntry)
    (rest : List PairPart) (ds : List Directory) (h : Found r limits used p e others rest ds)
    → Holds r (found_volume r h.judged.bytes e p rest)
unfolding root_superblock
found_holds r limits used p e others rest ds h = record {
  pairs = p.0 ∷ pairs_of rest;
  is_thread = h.is_thread;
  bytes = h.judged.bytes;
  attributes = e.attributes;
  superblock = root_superblock r p e others rest h.judged.bytes h.read h.judged.is;
  version = h.judged.header.version;
  size = h.judged.header.size_is;
  count = h.judged.header.count_is;
  limits = h.judged.header.limits;
  resolved = (All-head (IsProperPart r limits) (with_entries p others) rest h.kept.proper).resolved_all;
  resolved_later = λ pair s there other is.
      resolved_in r limits rest pair s h.read.later (All-tail (IsProperPart r limits) (with_entries p others) rest h.kept.proper)
      (later_one p.0 (pairs_of rest) pair there (λ same. other (same ∙ h.read.at))) is;
  is = refl;
}

-- the directories of the volume
pub found_directories : (r : Reading) (limits : Limits) (used : List Bool) (p : PairPart) (e : StoredEntry)
    (others : List StoredEntry) (rest : List PairPart) (ds : List Directory) (h : Found r limits used p e others rest ds)
    → pieces (map (link_from r) (with_entries p others ∷ rest)) ≡ directories_at r (p.0 ∷ pairs_of rest)
found_directories r limits used p e others rest ds h = ap pieces (same_links r p e others rest h.read h.judged.is.kind)

pub found_uses : (r : Reading) (limits : Limits) (used : List Bool) (p : PairPart) (e : StoredEntry) (others : List StoredEntry)
    (rest : List PairPart) (ds : List Directory) (h : Found r limits used p e others rest ds)
    → Marks used (λ b. uses b (found_volume r h.judged.bytes e p rest))
found_uses r limits used p e others rest ds h b =
    let all = uses_are r (header_of h.judged.bytes e.attributes) b (with_entries p others ∷ rest) (p.0 ∷ pairs_of rest)
    (same_links r p e others rest h.read h.judged.is.kind) refl in
    let marks = h.kept.marks b in
    omega arith

pub found_sound : (r : Reading) (limits : Limits) (used : List Bool) (p : PairPart) (e : StoredEntry) (others : List StoredEntry)
    (rest : List PairPart) (ds : List Directory) (h : Found r limits used p e others rest ds)
    → IsSoundUnwalked (found_volume r h.judged.bytes e p rest)
found_sound r limits used p e others rest ds h =
    let complete = pieces (map (link_from r) (with_entries p others ∷ rest)) in
    let same : complete ≡ directories_at r (p.0 ∷ pairs_of rest) = found_directories r limits used p e others rest ds h in
    let limits_are : limits ≡ (header_of h.judged.bytes e.attributes).limits = h.judged.limits_are in
    let marks = found_uses r limits used p e others rest ds h in
    let len : length used ≡ r.count = h.kept.len in
    record {
      starts = starts_at_root (link_at r p.0) (map (link_at r) (pairs_of rest)) (link_pair r p.0 (r.part p.0) ∙ h.read.at);
      order = subst (All (λ (d : Directory). Rise (entries d))) same (all_rise complete
          (subst (All (λ (d : Directory). Rise (entries d))) h.kept.is h.kept.order));
      proper = subst (All (λ (d : Directory). All (IsProper (header_of h.judged.bytes e.attributes).limits) (entries d))) same
          (each_entry (IsProper (header_of h.judged.bytes e.attributes).limits) (map (link_from r) (with_entries p others ∷ rest))
          (subst (λ (l : Limits). All (λ (x : Link). All (IsProper l) x.part.entries) (map (link_from r) (with_entries p others ∷ rest)))
          limits_are (proper_links r limits (with_entries p others ∷ rest) h.kept.proper)));
      root_attributes = subst (λ (l : Limits). AreAttributes l.attribute e.attributes) limits_are h.judged.fit;
      once = λ b. let is = marks b in let once = marked_once used b in omega arith;
      within = λ b some. let is = marks b in let within = marked_within used b (omega arith) in omega arith;
      settled = ap (λ (x : List Directory). delta_of (thread x)) (sym same) ∙ state_is r (with_entries p others ∷ rest) ∙ h.state;
    }

abbrev outline_with : Disk → Header → List Directory → Volume
outline_with d h ds = record { size = d.size; count = d.count; limits = h.limits; attributes = h.attributes; directories = ds }

-- what is answered
pub gathered : (d : Disk) (used : List Bool) (p : PairPart) (e : StoredEntry) (others : List StoredEntry) (rest : List PairPart)
    (limits : Limits) (directories : List Directory) (g : Gathered) → Found (reading_of d) limits used p e others rest directories
    → g.used.items ≡ used → g.outline
    ≡ record { size = d.size; count = d.count; limits = limits; attributes = e.attributes; directories = directories } → IsGathered d g
gathered d used p e others rest limits directories g h used_is outline =
    let r = reading_of d in
    let same = found_directories r limits used p e others rest directories h in
    record {
      volume = found_volume r h.judged.bytes e p rest;
      holds = found_holds r limits used p e others rest directories h;
      sound = found_sound r limits used p e others rest directories h;
      outline = outline
          ∙ ap (λ (l : Limits). record { size = d.size; count = d.count; limits = l; attributes = e.attributes; directories = directories })
          h.judged.limits_are
          ∙ ap (λ (ds : List Directory). outline_with d (header_of h.judged.bytes e.attributes) ds)
          (h.kept.is ∙ ap outlined_directories same);
      len = ap length used_is ∙ h.kept.len;
      marks = subst (λ (u : List Bool). Marks u (λ b. uses b (found_volume r h.judged.bytes e p rest))) (sym used_is)
          (found_uses r limits used p e others rest directories h);
    }
