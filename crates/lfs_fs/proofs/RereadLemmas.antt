-- The thread of an image, of which parts are taken over that stand still.
use Rattle.std.proofs.Common.{◌≡◌, ◌≢◌, ℕ, ◌+◌, ◌<◌, Bool, false, List, [], ◌∷◌, ◌++◌, length, map, Option, Some, None, refl, ap, sym, ◌∙◌, subst, arith}
use Rattle.std.specs.Prelude.{◌&&◌, All, bit_xor, flat_map, not, sum_by}
use Rattle.std.specs.List.{AllByRecursion}
use Rattle.std.proofs.lemmas.Bool.Decides.{nat_tests}
use Rattle.std.proofs.lemmas.List.Elements.{All-nil, All-weaker, recursion_from_All}
use Rattle.std.proofs.lemmas.List.Sums.{sum_by-cons}
use lib.Dec.{eqb}
use Rattle.lfs_block.specs.Disk.{Disk, IsDisk}
use Rattle.lfs_meta.specs.declared.tail.Tail.{Tail}
use Rattle.lfs_meta.specs.Attribute.{Attributes}
use Rattle.lfs_meta.specs.Body.{Pair}
use Rattle.lfs_meta.specs.Entry.{StoredEntry}
use Rattle.lfs_meta.specs.HeldLaws.{HeldPartsAreComplete, IsHeldEntry}
use Rattle.lfs_meta.specs.Complete.{IsComplete}
use Rattle.lfs_fs.specs.declared.joined.Joined.{Joined}
use Rattle.lfs_fs.specs.declared.limits.Limits.{Limits}
use Rattle.lfs_fs.specs.Pair.{root, same_pair}
use Rattle.lfs_fs.specs.Entry.{Entry}
use Rattle.lfs_fs.specs.Directory.{Directory, Part}
use Rattle.lfs_fs.specs.Uses.{entry_uses, times}
use Rattle.lfs_fs.specs.Used.{AddsBlocks, Marks, marked, unmarked}
use Rattle.lfs_fs.specs.Thread.{Link, is_hard, next}
use Rattle.lfs_fs.specs.Sound.{IsProper, Rise}
use Rattle.lfs_fs.specs.Front.{pair_names, pairs_name}
use Rattle.lfs_fs.specs.Reading.{Reading, reading_of}
use Rattle.lfs_fs.specs.Superblock.{superblock_entry}
use Rattle.lfs_fs.specs.Held.{resolved}
use Rattle.lfs_fs.specs.Outlined.{outlined_entry, outlined_part}
use Rattle.lfs_fs.specs.Judged.{SaysLimits, with_entries}
use Rattle.lfs_fs.specs.Gathering.{Joins, KeepsNext, PairPart, as_directory, link_from, part_entries, stored_uses}
use Rattle.lfs_fs.specs.Gathered.{IsGathered}
use Rattle.lfs_fs.specs.declared.gathering.Gathered.{Gathered}
use Rattle.lfs_fs.specs.Mounted.{IsOutlineOf}
use Rattle.lfs_fs.specs.Ordered.{IsListed}
use Rattle.lfs_fs.specs.Row.{Row}
use Rattle.lfs_fs.specs.Volume.{Volume}
use Rattle.lfs_fs.specs.ThreadRead.{IsRootRead, pairs_of}
use Rattle.lfs_fs.specs.Reread.{IsKnownLink, IsNone, IsReread, IsStarted, KeepsPair, TakesOver}
use Rattle.lfs_fs.proofs.AlikeLemmas.{behind_superblock}
use Rattle.lfs_fs.proofs.BothSidesLemmas.{others_alone, root_superblock}
use Rattle.lfs_fs.proofs.GatheredLemmas.{Found, gathered}
use Rattle.lfs_fs.proofs.JoinedLemmas.{GathersTo, all_kept, by_pairs, fewer_kept, first_kept, gathers_more, kept_marks, root_alone, root_with_rest}
use Rattle.lfs_fs.proofs.MountLemmas.{walked_sound}
use Rattle.lfs_fs.proofs.OutlinedLemmas.{body_uses_same, rise_outlined, sum_same}
use Rattle.lfs_fs.proofs.PartsLemmas.{IsCompletePart}
use Rattle.lfs_fs.proofs.ResolvedLemmas.{all_resolved}
use Rattle.lfs_fs.proofs.StandsLemmas.{all_are_resolved, all_resolve}
use Rattle.lfs_fs.proofs.ThreadReadLemmas.{marked_once}

-- ---- a part that is taken over

module _ (r : Reading) (limits : Limits) (bytes : List ℕ) (attributes : Attributes) (k : Link)
    (h : IsKnownLink r limits bytes attributes k) where
  -- what stands at its pair, less a superblock
  abbrev pub read_part : PairPart
  read_part = (h.link.part.pair, record { entries = h.stored.others; tail = h.stored.stored.tail; delta = h.stored.stored.delta })

  entries_are : flat_map (resolved r) h.stored.others ≡ h.link.part.entries
  entries_are = all_resolved r h.stored.others h.link.part.entries (all_resolve r h.stored.others h.link.part.entries h.stored.stands)

  part_is : k.part ≡ outlined_part (link_from r read_part).part
  part_is =
      let p = h.link.part in
      ap (λ (l : Link). l.part) h.is
      ∙ ap (λ (es : List Entry). record { pair = p.pair; entries = map outlined_entry es; delta = p.delta; dirty = p.dirty }) (sym entries_are)
      ∙ ap (λ (n : ℕ). record {
        pair = p.pair;
        entries = map outlined_entry (flat_map (resolved r) h.stored.others);
        delta = n;
        dirty = p.dirty;
      }) (sym h.stored.delta)
      ∙ ap (λ (b : Bool). record {
        pair = p.pair;
        entries = map outlined_entry (flat_map (resolved r) h.stored.others);
        delta = (link_from r read_part).part.delta;
        dirty = b;
      }) h.stored.clean

  uses_are : (b : ℕ) → sum_by (entry_uses b) k.part.entries ≡ stored_uses r b h.stored.others
  uses_are b =
      ap (λ (l : Link). sum_by (entry_uses b) l.part.entries) h.is
      ∙ sum_same (entry_uses b) outlined_entry (λ e. body_uses_same b e.body) h.link.part.entries
      ∙ ap (sum_by (entry_uses b)) (sym entries_are)

  pub known_rise : Rise k.part.entries
  known_rise = subst (λ (l : Link). Rise l.part.entries) (sym h.is) (rise_outlined h.link.part.entries h.rise)

  tail_is : k.tail ≡ h.stored.stored.tail
  tail_is = ap (λ (l : Link). l.tail) h.is ∙ sym h.stored.tail

  pair_is : k.part.pair ≡ h.link.part.pair
  pair_is = ap (λ (l : Link). l.part.pair) h.is

  pub next_known : (used more : List Bool) (old new : Joined) → TakesOver used more k old new → KeepsNext r limits used more read_part old new
  next_known used more old new t = record {
    kept = k.part;
    keeps = record {
      is = part_is;
      len = t.files.len;
      marks = λ b. t.files.marks b ∙ ap (λ (n : ℕ). marked used b + n) (uses_are b);
      proper = record {
        resolved_all = all_are_resolved r h.stored.others h.link.part.entries h.stored.stands;
        proper = subst (All (IsProper limits)) (sym entries_are) h.proper;
      };
      order = t.order;
    };
    joins = subst (λ (x : Tail). Joins (is_hard x) k.part old new) tail_is t.joins;
    state = t.state ∙ ap (λ (p : Part). bit_xor old.state p.delta) part_is;
  }

-- the entries that stand there are complete
pub known_complete : HeldPartsAreComplete → (d : Disk) (limits : Limits) (bytes : List ℕ) (attributes : Attributes) (k : Link)
    (h : IsKnownLink (reading_of d) limits bytes attributes k) → IsDisk d → k.part.pair.0 < d.count → k.part.pair.1 < d.count
    → AllByRecursion IsComplete h.stored.others
known_complete law d limits bytes attributes k h disk first second =
    let r = reading_of d in
    let at = pair_is r limits bytes attributes k h in
    let all = law d h.link.part.pair h.stored.stored disk (subst (λ (p : Pair). p.0 < d.count) at first)
    (subst (λ (p : Pair). p.1 < d.count) at second) h.stored.read in
    recursion_from_All IsComplete h.stored.others (All-weaker IsHeldEntry IsComplete (λ e held. held.complete) h.stored.others
    (behind_superblock IsHeldEntry (same_pair h.link.part.pair root) (superblock_entry bytes attributes) h.stored.others
    (subst (All IsHeldEntry) h.stored.entries all)))

-- elsewhere than at the root's pair
pub keeps_known : HeldPartsAreComplete → (d : Disk) (limits : Limits) (bytes : List ℕ) (attributes : Attributes) (k : Link) (pair : Pair)
    (h : IsKnownLink (reading_of d) limits bytes attributes k) → IsDisk d → pair.0 < d.count → pair.1 < d.count → pair ≢ root
    → k.part.pair ≡ pair → (used more : List Bool) (behind : Option Pair) (old new : Joined) → TakesOver used more k old new
    → behind ≡ next k.tail → KeepsPair (reading_of d) limits used more pair behind old new
keeps_known law d limits bytes attributes k pair h disk first second other at used more behind old new t behind_is =
    let r = reading_of d in
    let same = pair_is r limits bytes attributes k h in
    let there : h.link.part.pair ≡ pair = sym same ∙ at in
    let s = h.stored.stored in
    record {
      part = read_part r limits bytes attributes k h;
      at = there;
      read = ap r.part (sym there) ∙ h.stored.read ∙ ap (λ (es : List StoredEntry). Some (record { entries = es; tail = s.tail; delta = s.delta }))
          (h.stored.entries ∙ others_alone bytes attributes h.link.part.pair h.stored.others (λ is. other (sym there ∙ is)));
      complete = known_complete law d limits bytes attributes k h disk (subst (λ (p : Pair). p.0 < d.count) (sym at) first)
          (subst (λ (p : Pair). p.1 < d.count) (sym at) second);
      keeps = next_known r limits bytes attributes k h used more old new t;
      behind_is = behind_is ∙ ap next (tail_is r limits bytes attributes k h);
    }

-- at the root's pair
pub starts_known : HeldPartsAreComplete → (d : Disk) (limits : Limits) (attributes : Attributes) (k : Link) (bytes : List ℕ)
    (judged : SaysLimits d.size d.count limits (superblock_entry bytes attributes))
    (h : IsKnownLink (reading_of d) limits bytes attributes k) → IsDisk d → k.part.pair ≡ root
    → (fresh used more : List Bool) (behind : Option Pair) (old new : Joined) → length fresh ≡ d.count → Marks fresh (λ b. 0)
    → AddsBlocks fresh used (root.0 ∷ root.1 ∷ []) → IsNone old → TakesOver used more k old new → behind ≡ next k.tail
    → root.0 < d.count → root.1 < d.count
    → IsStarted (reading_of d) limits attributes more new behind
starts_known law d limits attributes k bytes judged h disk at fresh used more behind old new len none adds is_none t behind_is first second =
    let r = reading_of d in
    let same = pair_is r limits bytes attributes k h in
    let there : h.link.part.pair ≡ root = sym same ∙ at in
    let s = h.stored.stored in
    record {
      part = read_part r limits bytes attributes k h;
      marked = used;
      none = old;
      root = record {
        superblock = superblock_entry bytes attributes;
        at = there;
        read = ap r.part (sym there) ∙ h.stored.read
            ∙ ap (λ (es : List StoredEntry). Some (record { entries = es; tail = s.tail; delta = s.delta }))
            (root_superblock r bytes attributes h.link h.stored there);
        complete = known_complete law d limits bytes attributes k h disk (subst (λ (p : Pair). p.0 < d.count) (sym at) first)
            (subst (λ (p : Pair). p.1 < d.count) (sym at) second);
        judged = judged;
        len = adds.len ∙ len;
        marks = λ b. let is = adds.marks b in let before = none b in omega arith;
      };
      attributes_are = refl;
      is_none = is_none;
      keeps = next_known r limits bytes attributes k h used more old new t;
      behind_is = behind_is ∙ ap next (tail_is r limits bytes attributes k h);
    }

pub same_limits : (a b : Limits) → false ≡ not (eqb a.name b.name && (eqb a.file b.file && eqb a.attribute b.attribute)) → a ≡ b
same_limits a b is =
    let name : a.name ≡ b.name = grind (arith, nat_tests) in
    let file : a.file ≡ b.file = grind (arith, nat_tests) in
    let attribute : a.attribute ≡ b.attribute = grind (arith, nat_tests) in
    ap (λ (n : ℕ). record { name = n; file = a.file; attribute = a.attribute }) name
    ∙ ap (λ (n : ℕ). record { name = b.name; file = n; attribute = a.attribute }) file
    ∙ ap (λ (n : ℕ). record { name = b.name; file = b.file; attribute = n }) attribute

-- read, less the superblock
pub starts_read : (r : Reading) (limits : Limits) (attributes : Attributes) (was p : PairPart) (e : StoredEntry) (used more : List Bool)
    (behind : Option Pair) (old new : Joined) → IsRootRead r was used → was ≡ with_entries p (e ∷ p.1.entries)
    → SaysLimits r.size r.count limits e → attributes ≡ e.attributes → IsNone old → KeepsNext r limits used more p old new
    → behind ≡ next p.1.tail → IsStarted r limits attributes more new behind
starts_read r limits attributes was p e used more behind old new h taken judged attributes_are is_none keeps behind_is =
    let is = subst (λ (q : PairPart). IsRootRead r q used) taken h in
    record {
      part = p;
      marked = used;
      none = old;
      root = record {
        superblock = e;
        at = is.at;
        read = ap r.part (sym is.at) ∙ is.part.read;
        complete = is.part.complete.1;
        judged = judged;
        len = is.len;
        marks = is.marks;
      };
      attributes_are = attributes_are;
      is_none = is_none;
      keeps = keeps;
      behind_is = behind_is;
    }

-- ---- the thread behind the root's first part

-- the parts so far, behind the root's
abbrev pub GathersFrom : (r : Reading) (limits : Limits) (attributes : Attributes) (used : List Bool) (joined : Joined) (behind : Option Pair)
    → IsStarted r limits attributes used joined behind → Option Pair → List Bool → Joined → Type 0
GathersFrom r limits attributes used joined behind s so_far now j =
    (rest : List PairPart) × GathersTo r limits s.root.superblock s.part rest so_far now j

module _ (r : Reading) (limits : Limits) (attributes : Attributes) (used : List Bool) (joined : Joined) (behind : Option Pair)
    (s : IsStarted r limits attributes used joined behind) where
  pub first_gathered : GathersFrom r limits attributes used joined behind s behind used joined
  first_gathered = (
    [],
    subst (λ (o : Option Pair). GathersTo r limits s.root.superblock s.part [] o used joined) (sym s.behind_is)
        (first_kept r limits s.part s.marked used s.root s.none joined s.is_none.directories s.is_none.parts s.is_none.state s.keeps),
  )

  module _ (pair : Pair) (now : List Bool) (j : Joined) (h : GathersFrom r limits attributes used joined behind s (Some pair) now j) where
    pub gathered_len : length now ≡ r.count
    gathered_len = (kept_marks r limits (by_pairs (s.part.0 ∷ pairs_of h.0)) (s.part ∷ h.0) now j h.1.kept).0

    pub gathered_rise : Rise (part_entries j.parts.items)
    gathered_rise = (h.1.kept [] (All-nil IsCompletePart)).rise

    -- the root's pair doesn't come once more
    pub not_the_root : (mid : List Bool) → AddsBlocks now mid (pair.0 ∷ pair.1 ∷ []) → pair ≢ root
    not_the_root mid adds is =
        let marks = (kept_marks r limits (by_pairs (s.part.0 ∷ pairs_of h.0)) (s.part ∷ h.0) now j h.1.kept).1 0 in
        let front : pairs_name 0 (s.part.0 ∷ pairs_of h.0) ≡ pair_names 0 root + pairs_name 0 (pairs_of h.0) =
        ap (λ (p : Pair). pairs_name 0 (p ∷ pairs_of h.0)) s.root.at ∙ sum_by-cons (pair_names 0) root (pairs_of h.0) in
        let more : marked mid 0 ≡ marked now 0 + times 0 (root.0 ∷ root.1 ∷ []) =
        subst (λ (p : Pair). marked mid 0 ≡ marked now 0 + times 0 (p.0 ∷ p.1 ∷ [])) is (adds.marks 0) in
        let once = marked_once mid 0 in
        absurd (omega (arith, marks, front, more, once))

    pub pair_gathered : (mid new : List Bool) (k : Joined) (after : Option Pair) → AddsBlocks now mid (pair.0 ∷ pair.1 ∷ [])
        → KeepsPair r limits mid new pair after j k → GathersFrom r limits attributes used joined behind s after new k
    pair_gathered mid new k after adds keeps = (
      h.0 ++ keeps.part ∷ [],
      subst (λ (o : Option Pair).
          GathersTo r limits s.root.superblock s.part (h.0 ++ keeps.part ∷ []) o new k) (sym keeps.behind_is)
          (gathers_more r limits s.root.superblock s.part h.0 now j pair keeps.part mid new k h.1 adds keeps.at keeps.read keeps.complete keeps.keeps),
    )

    pub fewer_left : (mid new : List Bool) (k : Joined) (after : Option Pair) → AddsBlocks now mid (pair.0 ∷ pair.1 ∷ [])
        → KeepsPair r limits mid new pair after j k → unmarked new < unmarked now
    fewer_left mid new k after adds keeps = fewer_kept r limits now mid new pair keeps.part j k adds keeps.keeps

  pub all_reread : (now : List Bool) (j : Joined) → GathersFrom r limits attributes used joined behind s None now j
      → IsReread r limits attributes now j
  all_reread now j h = record {
    part = s.part;
    marked = s.marked;
    root = s.root;
    attributes_are = s.attributes_are;
    thread = all_kept r limits s.root.superblock s.part h.0 now j h.1;
  }

-- ---- the end

-- what is reread is what is gathered of the image
pub reread_gathered : (d : Disk) (limits : Limits) (attributes : Attributes) (used : List Bool) (j : Joined) (directories : List Directory)
    (g : Gathered) → IsReread (reading_of d) limits attributes used j → j.state ≡ 0 → g.used.items ≡ used
    → directories ≡ j.directories.items ++ as_directory j.parts.items
    → g.outline ≡ record { size = d.size; count = d.count; limits = limits; attributes = attributes; directories = directories }
    → IsGathered d g
reread_gathered d limits attributes used j directories g h settled used_is directories_are outline =
    let r = reading_of d in
    let e = h.root.superblock in
    let all : List Directory = j.directories.items ++ as_directory j.parts.items in
    let found : Found r limits used h.part e h.part.1.entries h.thread.rest all = record {
      read = root_with_rest r limits h.part e used j (root_alone r limits h.part h.marked h.root) h.thread;
      is_thread = h.thread.is_thread;
      judged = h.root.judged;
      state = sym h.thread.state ∙ settled;
      kept = h.thread.kept;
    } in
    gathered d used h.part e h.part.1.entries h.thread.rest limits all g found used_is
    (outline
    ∙ ap (λ (a : Attributes). record { size = d.size; count = d.count; limits = limits; attributes = a; directories = directories })
    h.attributes_are
    ∙ ap (λ (ds : List Directory). record { size = d.size; count = d.count; limits = limits; attributes = e.attributes; directories = ds })
    directories_are)

pub reread_outline : (d : Disk) (g : Gathered) (found : IsGathered d g) (rows : List Row) → IsListed g.outline rows → IsOutlineOf d g.outline
reread_outline d g found rows listed = record {
  volume = found.volume;
  holds = found.holds;
  sound = walked_sound found.volume rows found.sound (subst (λ (v : Volume). IsListed v rows) found.outline listed);
  outline = found.outline;
}
