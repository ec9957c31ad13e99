-- Entries made complete one after another.
use Rattle.std.proofs.Common.{◌≡◌, ◌&&◌, Bool, true, false, if◌then◌else◌, subst, ℕ, ◌+◌, ◌<◌, List, [], ◌∷◌, ◌++◌, length, map, take, refl}
use Rattle.std.proofs.Common.{ap, sym, ◌∙◌, Option, Some, None, get_or}
use Rattle.std.specs.Prelude.{option_and_then, option_map}
use Rattle.std.specs.List.{AllByRecursion}
use Rattle.std.proofs.lemmas.List.{take_more}
use Rattle.lfs_block.specs.declared.mount_fault.MountFault.{MountFault}
use Rattle.lfs_block.specs.declared.mount_fault.MountFault.TheVariants as fault
use Rattle.lfs_tag.proofs.Steps.{map_some}
use Rattle.lfs_meta.specs.Entry.{RawEntry, StoredEntry}
use Rattle.lfs_meta.specs.Cause.{RawEntryCause, RawEntriesCause}
use Rattle.lfs_meta.specs.Complete.{kind_takes_body, kind_takes_name, complete_by, complete, all_complete, complete_part}
use Rattle.lfs_meta.specs.declared.kind.Kind.{Kind}
use Rattle.lfs_meta.specs.Attribute.{Attributes}
use Rattle.lfs_meta.specs.Body.{StoredBody}
use Rattle.lfs_meta.specs.Name.{Name}
use Rattle.lfs_meta.specs.Part.{StoredPart}
use Rattle.lfs_meta.specs.Complete.{IsComplete, raw_of, raw_part}

all_complete-cons : (e : RawEntry) (es : List RawEntry) (w : StoredEntry) (ws : List StoredEntry) → complete e ≡ Some w → all_complete es ≡ Some ws
    → all_complete (e ∷ es) ≡ Some (w ∷ ws)
all_complete-cons e es w ws here there =
    ap (option_and_then (λ (v : StoredEntry). option_map (λ (vs : List StoredEntry). v ∷ vs) (all_complete es))) here
    ∙ ap (option_map (λ (vs : List StoredEntry). w ∷ vs)) there

pub and_then-split : {A B : Type 0} (f : A → Option B) (o : Option A) (y : B) → option_and_then f o ≡ Some y
    → (x : A) × (o ≡ Some x) × (f x ≡ Some y)
and_then-split f None y e = cc
and_then-split f (Some x) y e = (x, refl, e)

pub all_complete-push : (es : List RawEntry) (ws : List StoredEntry) (e : RawEntry) (w : StoredEntry) → all_complete es ≡ Some ws
    → complete e ≡ Some w
    → all_complete (es ++ (e ∷ [])) ≡ Some (ws ++ (w ∷ []))
all_complete-push [] ws e w all here = let none : [] ≡ ws = cc in all_complete-cons e [] w [] here refl
    ∙ ap (λ (vs : List StoredEntry). Some (vs ++ (w ∷ []))) none
all_complete-push (d ∷ es) ws e w all here =
    let (v, first, rest) = and_then-split (λ (v : StoredEntry). option_map (λ (vs : List StoredEntry). v ∷ vs) (all_complete es))
    (complete d) ws all in
    let (vs, more, is) = map_some (λ (vs : List StoredEntry). v ∷ vs) (all_complete es) ws rest in
    all_complete-cons d (es ++ (e ∷ [])) v (vs ++ (w ∷ [])) first (all_complete-push es vs e w more here)
    ∙ ap (λ (us : List StoredEntry). Some (us ++ (w ∷ []))) is

pub all_complete-more : (es : List RawEntry) (ws : List StoredEntry) (i : ℕ) (d : RawEntry) (w : StoredEntry) → i < length es
    → all_complete (take i es) ≡ Some ws → complete (get_or es i d) ≡ Some w → all_complete (take (i + 1) es) ≡ Some (ws ++ (w ∷ []))
all_complete-more es ws i d w within all here = ap all_complete (take_more es i d within)
    ∙ all_complete-push (take i es) ws (get_or es i d) w all here

-- an entry that isn't complete is one of them
pub entries-refused : (f : MountFault) (es : List RawEntry) (i : ℕ) (e : RawEntry) → i < length es → e ≡ get_or es i e → RawEntryCause f e
    → RawEntriesCause f es
entries-refused fault.IncompleteEntry es i e within is cause = (i, e, within, sym is, cause)
entries-refused fault.BadName es i e within is cause = (i, e, within, sym is, cause)
entries-refused fault.Memory es i e within is cause = tt
entries-refused _ es i e within is cause = cause

complete-raw : (e : StoredEntry) → IsComplete e → complete (raw_of e) ≡ Some e
complete-raw e h = rw (h.body, h.name) refl

pub when_both : (p q : Bool) (x w : StoredEntry) → (if p && q then Some x else None) ≡ Some w → (x ≡ w) × (p ≡ true) × (q ≡ true)
when_both true true x w e = (cc, refl, refl)
when_both true false x w e = cc
when_both false q x w e = cc

complete-is : (name : Option (Kind × Name)) (body : Option StoredBody) (attributes : Attributes) (w : StoredEntry)
    → complete_by name body attributes ≡ Some w → IsComplete w
complete-is None body attributes w e = cc
complete-is (Some name) None attributes w e = cc
complete-is (Some name) (Some body) attributes w e =
    let x : StoredEntry = record { kind = name.0; name = name.1; body = body; attributes = attributes } in
    let parts : (x ≡ w) × (kind_takes_body name.0 body ≡ true) × (kind_takes_name name.0 name.1 ≡ true) =
    when_both (kind_takes_body name.0 body) (kind_takes_name name.0 name.1) x w e in
    let is_complete : IsComplete x = record { body = parts.1; name = parts.2 } in
    subst IsComplete parts.0 is_complete

pub all_complete-are : (es : List RawEntry) (ws : List StoredEntry) → all_complete es ≡ Some ws → AllByRecursion IsComplete ws
all_complete-are [] ws all = let none : [] ≡ ws = cc in subst (AllByRecursion IsComplete) none tt
all_complete-are (d ∷ es) ws all =
    let (v, first, rest) = and_then-split (λ (v : StoredEntry). option_map (λ (vs : List StoredEntry). v ∷ vs) (all_complete es))
    (complete d) ws all in
    let (vs, more, is) = map_some (λ (vs : List StoredEntry). v ∷ vs) (all_complete es) ws rest in
    subst (AllByRecursion IsComplete) is (complete-is d.name d.body d.attributes v first, all_complete-are es vs more)

all_complete-raw : (es : List StoredEntry) → AllByRecursion IsComplete es → all_complete (map raw_of es) ≡ Some es
all_complete-raw [] all = refl
all_complete-raw (e ∷ es) all = all_complete-cons (raw_of e) (map raw_of es) e es (complete-raw e all.0) (all_complete-raw es all.1)

-- a part of complete entries, spelled and read
pub complete_part-raw : (p : StoredPart) → AllByRecursion IsComplete p.entries → complete_part (raw_part p) ≡ Some p
complete_part-raw p all =
    ap (option_map (λ (es : List StoredEntry). let q : StoredPart = record { entries = es; tail = p.tail; delta = p.delta } in q))
    (all_complete-raw p.entries all)
