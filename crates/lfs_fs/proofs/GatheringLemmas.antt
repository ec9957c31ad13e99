-- Entries gathered, one after another: what is left decides the whole.
use Rattle.std.proofs.Common.{◌≡◌, ℕ, ◌+◌, ◌-◌, ◌<◌, Bool, true, false, List, [], ◌∷◌, ◌++◌, length, map, Some, zero, suc, get_or, drop}
use Rattle.std.proofs.Common.{refl, ap, sym, ◌∙◌, subst, arith, append_assoc, append-nil}
use Rattle.std.specs.Prelude.{All, MatchBool, flat_map}
use Rattle.std.specs.List.{Any, AllByRecursion, slice_get}
use Rattle.std.proofs.lemmas.List.{map-append}
use Rattle.std.proofs.lemmas.List.Elements.{All-cons, All-nil, All-head, All-tail, All-append, All-push, All-weaker}
use Rattle.std.proofs.lemmas.List.Sums.{sum_by-append}
use Rattle.lfs_block.specs.declared.mount_fault.MountFault.{MountFault}
use Rattle.lfs_block.specs.declared.mount_fault.MountFault.TheVariants as fault
use Rattle.lfs_meta.specs.Name.{Name}
use Rattle.lfs_meta.specs.Entry.{StoredEntry}
use Rattle.lfs_meta.specs.Complete.{IsComplete}
use Rattle.lfs_meta.proofs.PartlessLemmas.{any_later}
use Rattle.lfs_fs.specs.declared.limits.Limits.{Limits}
use Rattle.lfs_fs.specs.NameOrder.{precedes}
use Rattle.lfs_fs.specs.Uses.{entry_uses}
use Rattle.lfs_fs.specs.Used.{marked}
use Rattle.lfs_fs.specs.Entry.{Entry}
use Rattle.lfs_fs.specs.Directory.{Part}
use Rattle.lfs_fs.specs.Sound.{Rise, IsProper}
use Rattle.lfs_fs.specs.Outlined.{outlined_entry}
use Rattle.lfs_fs.specs.Reading.{Reading}
use Rattle.lfs_fs.specs.Held.{resolved}
use Rattle.lfs_fs.specs.Holds.{IsResolved}
use Rattle.lfs_fs.specs.Gathering.{part_entries, EndsWith, EndsAtOrAfter, EntryFault, EntryCause, EntriesCause, KeepsEntry, KeepsEntries}
use Rattle.lfs_fs.specs.Gathering.{stored_uses}
use Rattle.lfs_fs.proofs.NameOrderLemmas.{precedes_transitive}

-- ---- names in order

last_of : {X : Type 0} (P : X → Type 0) (xs : List X) (x : X) → All P (xs ++ x ∷ []) → P x
last_of P [] x all = All-head P x [] all
last_of P (y ∷ xs) x all = last_of P xs x (All-tail P y (xs ++ x ∷ []) all)

all_before : (es : List Entry) (last : Entry) (name : Name) → Rise (es ++ last ∷ []) → precedes last.name name ≡ true
    → All (λ e. precedes e.name name ≡ true) (es ++ last ∷ [])
all_before [] last name rise before = All-cons (λ (e : Entry). precedes e.name name ≡ true) last [] before
    (All-nil (λ (e : Entry). precedes e.name name ≡ true))
all_before (e ∷ es) last name rise before =
    let rest = all_before es last name rise.1 before in
    let here : precedes e.name last.name ≡ true = last_of (λ (f : Entry). precedes e.name f.name ≡ true) es last rise.0 in
    All-cons (λ (x : Entry). precedes x.name name ≡ true) e (es ++ last ∷ []) (precedes_transitive e.name last.name name here before) rest

-- the last name decides
pub last_decides : (es : List Entry) (last : Entry) (name : Name) (b : Bool) → EndsWith es last → Rise es → b ≡ precedes last.name name
    → MatchBool b (All (λ e. precedes e.name name ≡ true) es) (EndsAtOrAfter es name)
last_decides es last name true ends rise is = subst (All (λ (e : Entry). precedes e.name name ≡ true)) (sym ends.1)
    (all_before ends.0 last name (subst Rise ends.1 rise) (sym is))
last_decides es last name false ends rise is = record { before = ends.0; last = last; is = ends.1; fall = sym is }

ends_more : (x e : Entry) (es : List Entry) → EndsWith es e → EndsWith (x ∷ es) e
ends_more x e es (before, is) = (x ∷ before, ap (λ z. x ∷ z) is)

-- the last of entries
pub ends_with : (es : List Entry) (e : Entry) → slice_get es (length es - 1) ≡ Some e → EndsWith es e
ends_with [] e is = cc
ends_with (x ∷ []) e is = let same : x ≡ e = cc in ([], ap (λ (y : Entry). y ∷ []) same)
ends_with (x ∷ y ∷ es) e is =
    let last : length (x ∷ y ∷ es) - 1 ≡ suc (length (y ∷ es) - 1) = omega arith in
    let rest = ends_with (y ∷ es) e (subst (λ n. slice_get (x ∷ y ∷ es) n ≡ Some e) last is) in
    ends_more x e (y ∷ es) rest

-- and of entries behind others
pub ends_behind : (before es : List Entry) (e : Entry) → EndsWith es e → EndsWith (before ++ es) e
ends_behind before es e (front, is) = (before ++ front, ap (λ (x : List Entry). before ++ x) is ∙ sym (append_assoc before front (e ∷ [])))

-- the last entry of parts stands in the last one that has any
pub last_at : (ps : List Part) (i : ℕ) (p : Part) (e : Entry) → i < length ps → p ≡ get_or ps i p → part_entries (drop (suc i) ps) ≡ []
    → EndsWith p.entries e → EndsWith (part_entries ps) e
last_at [] i p e within at none ends = absurd (omega arith)
last_at (q ∷ ps) zero p e within at none (front, is) =
    (front, ap (λ (es : List Entry). q.entries ++ es) none ∙ append-nil q.entries ∙ ap (λ (x : Part). x.entries) (sym at) ∙ is)
last_at (q ∷ ps) (suc i) p e within at none ends = ends_behind q.entries (part_entries ps) e (last_at ps i p e (omega arith) at none ends)

pub rise_more : (es : List Entry) (e : Entry) → Rise es → All (λ f. precedes f.name e.name ≡ true) es → Rise (es ++ e ∷ [])
rise_more [] e rise before = (All-nil (λ (f : Entry). precedes e.name f.name ≡ true), tt)
rise_more (x ∷ es) e rise before = (
  All-push (λ (f : Entry). precedes x.name f.name ≡ true) es e rise.0 (All-head (λ (f : Entry). precedes f.name e.name ≡ true) x es before),
  rise_more es e rise.1 (All-tail (λ (f : Entry). precedes f.name e.name ≡ true) x es before),
)

-- names that rise, behind others that come before the first of them
pub rise_both : (es : List Entry) (f : Entry) (fs : List Entry) → Rise es → Rise (f ∷ fs) → All (λ e. precedes e.name f.name ≡ true) es
    → Rise (es ++ f ∷ fs)
rise_both [] f fs rise later before = later
rise_both (e ∷ es) f fs rise later before =
    let here : precedes e.name f.name ≡ true = All-head (λ (x : Entry). precedes x.name f.name ≡ true) e es before in
    let Behind : Entry → Type 0 = λ x. precedes e.name x.name ≡ true in (
      All-append Behind es (f ∷ fs) rise.0 (All-cons Behind f fs here (All-weaker (λ (x : Entry). precedes f.name x.name ≡ true) Behind
          (λ x next. precedes_transitive e.name f.name x.name here next) fs later.0)),
      rise_both es f fs rise.1 later (All-tail (λ (x : Entry). precedes x.name f.name ≡ true) e es before),
    )

-- ---- entries

-- what is kept so far behind others, and the entries that are left
pub record KeepsTo (r : Reading) (limits : Limits) (start : List Bool) (before : List Entry) (es : List StoredEntry) (used : List Bool)
    (kept : List Entry) (rest : List StoredEntry) : Type 0 where
  pub complete : AllByRecursion IsComplete rest
  pub rise : Rise (before ++ kept)
  pub is : kept ++ map outlined_entry (flat_map (resolved r) rest) ≡ map outlined_entry (flat_map (resolved r) es)
  pub len : length used ≡ length start
  pub marks : (b : ℕ) → marked used b + stored_uses r b rest ≡ marked start b + stored_uses r b es
  pub faults : (fault : MountFault) → Any (EntryFault fault r limits) rest → Any (EntryFault fault r limits) es
  pub resolved_all : All (IsResolved r) rest → All (IsResolved r) es
  pub proper : All (IsProper limits) (flat_map (resolved r) rest) → All (IsProper limits) (flat_map (resolved r) es)

pub none_kept : (r : Reading) (limits : Limits) (start : List Bool) (before : List Entry) (es : List StoredEntry)
    → AllByRecursion IsComplete es → Rise before → KeepsTo r limits start before es start [] es
none_kept r limits start before es complete rise = record {
  complete = complete;
  rise = subst Rise (sym (append-nil before)) rise;
  is = refl;
  len = refl;
  marks = λ b. refl;
  faults = λ fault any. any;
  resolved_all = λ all. all;
  proper = λ all. all;
}

uses_more : (r : Reading) (b : ℕ) (e : StoredEntry) (es : List StoredEntry)
    → stored_uses r b (e ∷ es) ≡ stored_uses r b (e ∷ []) + stored_uses r b es
uses_more r b e es = omega (
  arith,
  sum_by-append (entry_uses b) (resolved r e) (flat_map (resolved r) es),
  sum_by-append (entry_uses b) (resolved r e) [],
)

pub any_here : {X : Type 0} (P : X → Type 0) (x : X) (xs : List X) → P x → Any P (x ∷ xs)
any_here P x xs holds = (0, x, omega arith, refl, holds)

-- one entry more
pub keeps_more : (r : Reading) (limits : Limits) (start : List Bool) (before : List Entry) (es : List StoredEntry) (used new : List Bool)
    (kept : List Entry) (e : StoredEntry) (rest : List StoredEntry) (next : Entry)
    → KeepsTo r limits start before es used kept (e ∷ rest) → KeepsEntry r limits used new e next
    → All (λ f. precedes f.name next.name ≡ true) (before ++ kept)
    → KeepsTo r limits start before es new (kept ++ next ∷ []) rest
keeps_more r limits start before es used new kept e rest next h one order = record {
  complete = h.complete.1;
  rise = subst Rise (append_assoc before kept (next ∷ [])) (rise_more (before ++ kept) next h.rise order);
  is = append_assoc kept (next ∷ []) (map outlined_entry (flat_map (resolved r) rest))
      ∙ ap (λ (x : List Entry). kept ++ (x ++ map outlined_entry (flat_map (resolved r) rest))) (sym one.is)
      ∙ ap (λ (x : List Entry). kept ++ x) (sym (map-append outlined_entry (resolved r e) (flat_map (resolved r) rest)))
      ∙ h.is;
  len = one.len ∙ h.len;
  marks = λ b. let marks = one.marks b in let left = h.marks b in let uses = uses_more r b e rest in omega arith;
  faults = λ fault any. h.faults fault (any_later (EntryFault fault r limits) e rest any);
  resolved_all = λ all. h.resolved_all (All-cons (IsResolved r) e rest one.resolved_one all);
  proper = λ all. h.proper (All-append (IsProper limits) (resolved r e) (flat_map (resolved r) rest) one.proper all);
}

-- no entry is left
pub all_kept : (r : Reading) (limits : Limits) (start : List Bool) (before : List Entry) (es : List StoredEntry) (used : List Bool)
    (kept : List Entry) (rest : List StoredEntry) → rest ≡ [] → KeepsTo r limits start before es used kept rest
    → KeepsEntries r limits start used es kept
all_kept r limits start before es used kept [] is h = record {
  is = sym (append-nil kept) ∙ h.is;
  len = h.len;
  marks = λ b. let marks = h.marks b in omega arith;
  resolved_all = h.resolved_all (All-nil (IsResolved r));
  proper = h.proper (All-nil (IsProper limits));
}
all_kept r limits start before es used kept (e ∷ rest) is h = cc

-- what refuses the next entry refuses all
pub next_refuses : (f : MountFault) (r : Reading) (limits : Limits) (start : List Bool) (before : List Entry) (es : List StoredEntry)
    (used : List Bool) (kept : List Entry) (e : StoredEntry) (rest : List StoredEntry)
    → KeepsTo r limits start before es used kept (e ∷ rest) → EntryCause f r limits used e → EntriesCause f r limits start before es
next_refuses fault.BlockTwice r limits start before es used kept e rest h (b, twice) = let left = h.marks b in
    let uses = uses_more r b e rest in (b, omega arith)
next_refuses fault.Memory r limits start before es used kept e rest h cause = tt
next_refuses fault.OrderFault r limits start before es used kept e rest h cause = absurd cause
next_refuses fault.BadSkipList r limits start before es used kept e rest h cause =
    h.faults fault.BadSkipList (any_here (EntryFault fault.BadSkipList r limits) e rest cause)
next_refuses fault.BlockRange r limits start before es used kept e rest h cause =
    h.faults fault.BlockRange (any_here (EntryFault fault.BlockRange r limits) e rest cause)
next_refuses fault.SuperblockElsewhere r limits start before es used kept e rest h cause =
    h.faults fault.SuperblockElsewhere (any_here (EntryFault fault.SuperblockElsewhere r limits) e rest cause)
next_refuses fault.BadSize r limits start before es used kept e rest h cause =
    h.faults fault.BadSize (any_here (EntryFault fault.BadSize r limits) e rest cause)
next_refuses _ r limits start before es used kept e rest h cause = absurd cause

-- the next name doesn't come after the last
pub next_falls : (r : Reading) (limits : Limits) (start : List Bool) (before : List Entry) (es : List StoredEntry) (used new : List Bool)
    (kept : List Entry) (e : StoredEntry) (rest : List StoredEntry) (next : Entry)
    → KeepsTo r limits start before es used kept (e ∷ rest) → KeepsEntry r limits used new e next → EndsAtOrAfter (before ++ kept) next.name
    → EntriesCause fault.OrderFault r limits start before es
next_falls r limits start before es used new kept e rest next h one ends = record {
  before = ends.before;
  left = ends.last;
  right = next;
  after = map outlined_entry (flat_map (resolved r) rest);
  neighbours = ap (λ (x : List Entry). before ++ x) (sym h.is)
      ∙ sym (append_assoc before kept (map outlined_entry (flat_map (resolved r) (e ∷ rest))))
      ∙ ap (λ (x : List Entry). (before ++ kept) ++ x) (map-append outlined_entry (resolved r e) (flat_map (resolved r) rest))
      ∙ ap (λ (x : List Entry). (before ++ kept) ++ (x ++ map outlined_entry (flat_map (resolved r) rest))) one.is
      ∙ ap (λ (x : List Entry). x ++ next ∷ map outlined_entry (flat_map (resolved r) rest)) ends.is
      ∙ append_assoc ends.before (ends.last ∷ []) (next ∷ map outlined_entry (flat_map (resolved r) rest));
  fall = ends.fall;
}
