-- Parts gathered into directories, one after another: what is left decides the whole.
use Rattle.std.proofs.Common.{◌≡◌, ℕ, ◌+◌, Bool, true, false, List, [], ◌∷◌, ◌++◌, length, map, refl, ap, sym, ◌∙◌, subst, arith}
use Rattle.std.proofs.Common.{append_assoc}
use Rattle.std.specs.Prelude.{All}
use Rattle.std.specs.List.{Any, AllByRecursion}
use Rattle.std.proofs.lemmas.List.Elements.{All-cons, All-nil, All-tail, All-append, All-push}
use Rattle.std.proofs.lemmas.Grind.{flat_map-append}
use Rattle.std.proofs.lemmas.List.{flat_map_more}
use Rattle.std.proofs.lemmas.List.Sums.{sum_by-cons}
use Rattle.lfs_block.specs.declared.mount_fault.MountFault.{MountFault}
use Rattle.lfs_block.specs.declared.mount_fault.MountFault.TheVariants as fault
use Rattle.lfs_meta.specs.Complete.{IsComplete}
use Rattle.lfs_meta.proofs.PartlessLemmas.{any_later}
use Rattle.lfs_fs.specs.declared.limits.Limits.{Limits}
use Rattle.lfs_fs.specs.Used.{marked, Marks}
use Rattle.lfs_fs.specs.Directory.{Part, Directory, parts, entries}
use Rattle.lfs_fs.specs.Thread.{is_hard, joined_to, pieces}
use Rattle.lfs_fs.specs.Entry.{Entry}
use Rattle.lfs_fs.specs.Sound.{Rise}
use Rattle.lfs_fs.specs.Reading.{Reading}
use Rattle.lfs_fs.specs.Outlined.{outlined_part}
use Rattle.lfs_fs.specs.Gathering.{PairPart, NamesFall, EntryFault, EntriesCause, KeepsPart, link_from, stored_uses, parts_use}
use Rattle.lfs_fs.specs.Gathering.{part_entries, as_directory, outlined_pieces, IsProperPart, KeepsParts, PartsCause}
use Rattle.lfs_fs.proofs.GatheringLemmas.{any_here}
use Rattle.lfs_fs.proofs.FoldersLemmas.{cut_here, all_joined, outlined_cut, joined_more, joined_ends, joined_last}

-- the entries of a part are complete
abbrev pub IsCompletePart : PairPart → Type 0
IsCompletePart p = AllByRecursion IsComplete p.1.entries

-- something is wrong with an entry of a part
abbrev pub HasFault : MountFault → Reading → Limits → PairPart → Type 0
HasFault f r limits p = Any (EntryFault f r limits) p.1.entries

-- the directories so far, the parts of the one that may go on, and the parts that are left
pub record PartsTo (r : Reading) (limits : Limits) (others : ℕ → ℕ) (ps : List PairPart) (used : List Bool)
    (directories : List Directory) (joined : List Part) (rest : List PairPart) : Type 0 where
  pub complete : All IsCompletePart rest
  pub rise : Rise (part_entries joined)
  pub rises : All (λ d. Rise (entries d)) directories
  pub is : directories ++ all_joined joined (outlined_pieces r rest) ≡ outlined_pieces r ps
  pub len : length used ≡ r.count
  pub marks : (b : ℕ) → marked used b + parts_use r b rest ≡ others b + parts_use r b ps
  pub faults : (f : MountFault) → Any (HasFault f r limits) rest → Any (HasFault f r limits) ps
  pub proper : All (IsProperPart r limits) rest → All (IsProperPart r limits) ps

pub none_gathered : (r : Reading) (limits : Limits) (others : ℕ → ℕ) (ps : List PairPart) (used : List Bool) → All IsCompletePart ps
    → length used ≡ r.count → Marks used others → PartsTo r limits others ps used [] [] ps
none_gathered r limits others ps used complete len marks = record {
  complete = complete;
  rise = tt;
  rises = All-nil (λ (d : Directory). Rise (entries d));
  is = refl;
  len = len;
  marks = λ b. let is = marks b in omega arith;
  faults = λ f any. any;
  proper = λ all. all;
}

-- a part before those that are left
next_piece : (r : Reading) (p : PairPart) (rest : List PairPart) (hard : Bool) → is_hard p.1.tail ≡ hard
    → outlined_pieces r (p ∷ rest) ≡ cut_here hard (outlined_part (link_from r p).part) (outlined_pieces r rest)
next_piece r p rest hard is =
    outlined_cut (is_hard p.1.tail) (link_from r p).part (pieces (map (link_from r) rest))
    ∙ ap (λ (b : Bool). cut_here b (outlined_part (link_from r p).part) (outlined_pieces r rest)) is

rise_alone : (ps : List Part) → Rise (part_entries ps) → All (λ d. Rise (entries d)) (as_directory ps)
rise_alone [] rise = All-nil (λ (d : Directory). Rise (entries d))
rise_alone (p ∷ ps) rise = All-push (λ (d : Directory). Rise (entries d)) [] (record { first = p; more = ps })
    (All-nil (λ (d : Directory). Rise (entries d))) rise

-- one part more, kept, which directories and parts are said to hold
gathered_so : (r : Reading) (limits : Limits) (others : ℕ → ℕ) (ps : List PairPart) (used new : List Bool)
    (directories these_directories : List Directory) (joined these : List Part) (p : PairPart) (rest : List PairPart) (kept : Part)
    → PartsTo r limits others ps used directories joined (p ∷ rest) → KeepsPart r limits used new p joined kept → Rise (part_entries these)
    → All (λ d. Rise (entries d)) these_directories
    → these_directories ++ all_joined these (outlined_pieces r rest) ≡ directories ++ all_joined joined (outlined_pieces r (p ∷ rest))
    → PartsTo r limits others ps new these_directories these rest
gathered_so r limits others ps used new directories these_directories joined these p rest kept h keeps rise rises is = record {
  complete = All-tail IsCompletePart p rest h.complete;
  rise = rise;
  rises = rises;
  is = is ∙ h.is;
  len = keeps.len ∙ h.len;
  marks = λ b. let marks = keeps.marks b in let left = h.marks b in omega
      (arith, sum_by-cons (λ (q : PairPart). stored_uses r b q.1.entries) p rest);
  faults = λ f any. h.faults f (any_later (HasFault f r limits) p rest any);
  proper = λ all. h.proper (All-cons (IsProperPart r limits) p rest keeps.proper all);
}

-- the directory goes on behind it
pub goes_on : (r : Reading) (limits : Limits) (others : ℕ → ℕ) (ps : List PairPart) (used new : List Bool) (directories : List Directory)
    (joined : List Part) (p : PairPart) (rest : List PairPart) (kept : Part)
    → PartsTo r limits others ps used directories joined (p ∷ rest) → KeepsPart r limits used new p joined kept → is_hard p.1.tail ≡ true
    → PartsTo r limits others ps new directories (joined ++ kept ∷ []) rest
goes_on r limits others ps used new directories joined p rest kept h keeps hard =
    gathered_so r limits others ps used new directories directories joined (joined ++ kept ∷ []) p rest kept h keeps keeps.order h.rises
    (ap (λ (ds : List Directory). directories ++ ds)
    (sym (joined_more joined kept (outlined_pieces r rest))
    ∙ ap (λ (x : Part). all_joined joined (cut_here true x (outlined_pieces r rest))) keeps.is
    ∙ ap (all_joined joined) (sym (next_piece r p rest true hard))))

-- the directory ends with it
pub ends_here : (r : Reading) (limits : Limits) (others : ℕ → ℕ) (ps : List PairPart) (used new : List Bool)
    (directories : List Directory) (joined : List Part) (p : PairPart) (rest : List PairPart) (kept : Part)
    → PartsTo r limits others ps used directories joined (p ∷ rest) → KeepsPart r limits used new p joined kept → is_hard p.1.tail ≡ false
    → PartsTo r limits others ps new (directories ++ as_directory (joined ++ kept ∷ [])) [] rest
ends_here r limits others ps used new directories joined p rest kept h keeps soft =
    gathered_so r limits others ps used new directories (directories ++ as_directory (joined ++ kept ∷ [])) joined [] p rest kept h keeps tt
    (All-append (λ (d : Directory). Rise (entries d)) directories (as_directory (joined ++ kept ∷ [])) h.rises
    (rise_alone (joined ++ kept ∷ []) keeps.order))
    (append_assoc directories (as_directory (joined ++ kept ∷ [])) (outlined_pieces r rest)
    ∙ ap (λ (ds : List Directory). directories ++ ds)
    (sym (joined_ends joined kept (outlined_pieces r rest))
    ∙ ap (λ (x : Part). all_joined joined (cut_here false x (outlined_pieces r rest))) keeps.is
    ∙ ap (all_joined joined) (sym (next_piece r p rest false soft))))

-- no part is left
pub all_gathered : (r : Reading) (limits : Limits) (others : ℕ → ℕ) (ps : List PairPart) (used : List Bool)
    (directories : List Directory) (joined : List Part) (rest : List PairPart) → length rest ≡ 0
    → PartsTo r limits others ps used directories joined rest → KeepsParts r limits others used ps (directories ++ as_directory joined)
all_gathered r limits others ps used directories joined [] none h = record {
  is = ap (λ (ds : List Directory). directories ++ ds) (sym (joined_last joined)) ∙ h.is;
  len = h.len;
  marks = λ b. let marks = h.marks b in omega arith;
  proper = h.proper (All-nil (IsProperPart r limits));
  order = All-append (λ (d : Directory). Rise (entries d)) directories (as_directory joined) h.rises (rise_alone joined h.rise);
}
all_gathered r limits others ps used directories joined (p ∷ rest) none h = absurd (omega arith)

-- ---- why parts are refused

-- the first directory begins with these parts
record Begun (ds : List Directory) (ps : List Part) : Type 0 where
  first : Directory
  others : List Directory
  more : List Part
  is : ds ≡ first ∷ others
  begins : parts first ≡ ps ++ more

begun_cut : (hard : Bool) (p : Part) (ds : List Directory) → Begun (cut_here hard p ds) (p ∷ [])
begun_cut true p [] = record { first = record { first = p; more = [] }; others = []; more = []; is = refl; begins = refl }
begun_cut true p (d ∷ ds) = record { first = record { first = p; more = parts d }; others = ds; more = parts d; is = refl; begins = refl }
begun_cut false p ds = record { first = record { first = p; more = [] }; others = ds; more = []; is = refl; begins = refl }

begun_before : (p : Part) (ds : List Directory) (ps : List Part) → Begun ds ps → Begun (joined_to p ds) (p ∷ ps)
begun_before p ds ps h = record {
  first = record { first = p; more = parts h.first };
  others = h.others;
  more = h.more;
  is = ap (joined_to p) h.is;
  begins = ap (λ (x : List Part). p ∷ x) h.begins;
}

begun_joined : (joined : List Part) (ds : List Directory) (ps : List Part) → Begun ds ps → Begun (all_joined joined ds) (joined ++ ps)
begun_joined [] ds ps h = h
begun_joined (p ∷ joined) ds ps h = begun_before p (all_joined joined ds) (joined ++ ps) (begun_joined joined ds ps h)

fall_more : (es more : List Entry) → NamesFall es → NamesFall (es ++ more)
fall_more es more h = record {
  before = h.before;
  left = h.left;
  right = h.right;
  after = h.after ++ more;
  neighbours = ap (λ (x : List Entry). x ++ more) h.neighbours ∙ append_assoc h.before (h.left ∷ h.right ∷ h.after) more;
  fall = h.fall;
}

any_behind : {X : Type 0} (P : X → Type 0) (xs ys : List X) → Any P ys → Any P (xs ++ ys)
any_behind P [] ys any = any
any_behind P (x ∷ xs) ys any = any_later P x (xs ++ ys) (any_behind P xs ys any)

falls_first : (ds : List Directory) (ps : List Part) → Begun ds ps → NamesFall (part_entries ps) → Any (λ d. NamesFall (entries d)) ds
falls_first ds ps h fall =
    let same : entries h.first ≡ part_entries ps ++ part_entries h.more =
    ap part_entries h.begins ∙ flat_map-append (λ (p : Part). p.entries) ps h.more in
    subst (Any (λ (d : Directory). NamesFall (entries d))) (sym h.is)
    (any_here (λ (d : Directory). NamesFall (entries d)) h.first h.others
    (subst NamesFall (sym same) (fall_more (part_entries ps) (part_entries h.more) fall)))

pub one_behind : (ps : List Part) (p : Part) → part_entries ps ++ p.entries ≡ part_entries (ps ++ p ∷ [])
one_behind ps p = flat_map_more (λ (x : Part). x.entries) [] ps p

-- what refuses the next part refuses all
pub part_refuses : (f : MountFault) (r : Reading) (limits : Limits) (others : ℕ → ℕ) (ps : List PairPart) (used : List Bool)
    (directories : List Directory) (joined : List Part) (p : PairPart) (rest : List PairPart)
    → PartsTo r limits others ps used directories joined (p ∷ rest) → EntriesCause f r limits used (part_entries joined) p.1.entries
    → PartsCause f r limits others ps
part_refuses fault.OrderFault r limits others ps used directories joined p rest h fall =
    let here = outlined_part (link_from r p).part in
    let these = all_joined joined (outlined_pieces r (p ∷ rest)) in
    let begun = begun_joined joined (outlined_pieces r (p ∷ rest)) (here ∷ [])
    (subst (λ (ds : List Directory). Begun ds (here ∷ [])) (sym (next_piece r p rest (is_hard p.1.tail) refl))
    (begun_cut (is_hard p.1.tail) here (outlined_pieces r rest))) in
    subst (Any (λ (d : Directory). NamesFall (entries d))) h.is
    (any_behind (λ (d : Directory). NamesFall (entries d)) directories these
    (falls_first these (joined ++ here ∷ []) begun (subst NamesFall (one_behind joined here) fall)))
part_refuses fault.BlockTwice r limits others ps used directories joined p rest h (b, twice) =
    let left = h.marks b in
    (b, omega (arith, sum_by-cons (λ (q : PairPart). stored_uses r b q.1.entries) p rest))
part_refuses fault.Memory r limits others ps used directories joined p rest h cause = tt
part_refuses fault.BadSkipList r limits others ps used directories joined p rest h cause =
    h.faults fault.BadSkipList (any_here (HasFault fault.BadSkipList r limits) p rest cause)
part_refuses fault.BlockRange r limits others ps used directories joined p rest h cause =
    h.faults fault.BlockRange (any_here (HasFault fault.BlockRange r limits) p rest cause)
part_refuses fault.SuperblockElsewhere r limits others ps used directories joined p rest h cause =
    h.faults fault.SuperblockElsewhere (any_here (HasFault fault.SuperblockElsewhere r limits) p rest cause)
part_refuses fault.BadSize r limits others ps used directories joined p rest h cause =
    h.faults fault.BadSize (any_here (HasFault fault.BadSize r limits) p rest cause)
part_refuses f r limits others ps used directories joined p rest h cause = h.faults f (any_here (HasFault f r limits) p rest cause)
