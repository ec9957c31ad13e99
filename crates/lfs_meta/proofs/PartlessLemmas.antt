-- A pair that holds no part has a cause.
use Rattle.std.proofs.Common.{◌≡◌, ◌⊎◌, Bool, true, false, ◌&&◌, List, [], ◌∷◌, length, refl, ap, ◌∙◌, arith, Option, Some, None, suc, inl}
use Rattle.std.proofs.Common.{inr}
use Rattle.std.specs.Prelude.{option_and_then, option_map, if◌then◌else◌}
use Rattle.std.specs.List.{Any}
use Rattle.lfs_block.specs.Disk.{Disk}
use Rattle.lfs_block.specs.declared.mount_fault.MountFault.{MountFault}
use Rattle.lfs_block.specs.declared.mount_fault.MountFault.TheVariants as fault
use Rattle.lfs_tag.specs.Tag.{type_of}
use Rattle.lfs_tag.specs.Commit.{Item}
use Rattle.lfs_meta.specs.declared.action.Action.{Action}
use Rattle.lfs_meta.specs.declared.kind.Kind.{Kind}
use Rattle.lfs_meta.specs.Action.{action_of, is_bad}
use Rattle.lfs_meta.specs.Attribute.{Attributes}
use Rattle.lfs_meta.specs.Body.{Pair, StoredBody}
use Rattle.lfs_meta.specs.Cause.{PairCause}
use Rattle.lfs_meta.specs.Entry.{RawEntry, StoredEntry}
use Rattle.lfs_meta.specs.LiveBlock.{tags_of, part_of}
use Rattle.lfs_meta.specs.Name.{Name}
use Rattle.lfs_meta.specs.Part.{RawPart, StoredPart, empty_part}
use Rattle.lfs_meta.specs.Replay.{acted, replay_by, step, replay_from, replay, HasUnknown, HasBadFrom}
use Rattle.lfs_meta.specs.Complete.{kind_takes_body, kind_takes_name, IsIncompleteBy, IsIncomplete, IsMisnamedBy, IsMisnamed, complete_by, complete}
use Rattle.lfs_meta.specs.Complete.{all_complete, complete_part}
use Rattle.lfs_meta.specs.HeldLaws.{PairsWithoutAPartHaveACause}
use Rattle.lfs_meta.proofs.ReplayLemmas.{bad-cons}

pub any_later : {X : Type 0} (P : X → Type 0) (x : X) (xs : List X) → Any P xs → Any P (x ∷ xs)
any_later P x xs (k, y, within, is, holds) = (suc k, y, omega arith, is, holds)

-- ---- tags

-- an unknown tag, or a bad one
abbrev HasWrongTag : RawPart → List Item → Type 0
HasWrongTag p ts = HasUnknown ts ⊎ HasBadFrom p ts

-- the first tag is bad, or a later one is refused
by_bad : (b : Bool) (p : RawPart) (a : Action) (t : Item) (ts : List Item) → action_of (type_of t.word) ≡ Some a
    → is_bad a t (length p.entries) ≡ b
    → option_and_then (λ q. replay_from q ts) (if b then None else Some (acted a t p)) ≡ None
    → ((q : RawPart) → replay_from q ts ≡ None → HasWrongTag q ts) → HasWrongTag p (t ∷ ts)
unfolding replay_from
by_bad true p a t ts known bad none later = inr ([], t, ts, refl, p, refl, a, known, bad)
by_bad false p a t ts known good none later =
    let done : step p t ≡ Some (acted a t p) = ap (λ (o : Option Action). replay_by o p t) known
    ∙ ap (λ (b : Bool). if b then None else Some (acted a t p)) good in
    elim (later (acted a t p) none) [
      | inl unknown ↦ inl (any_later (λ (u : Item). action_of (type_of u.word) ≡ None) t ts unknown)
      | inr bad ↦ inr (bad-cons p (acted a t p) t ts done bad)
    ]

by_action : (o : Option Action) (p : RawPart) (t : Item) (ts : List Item) → action_of (type_of t.word) ≡ o
    → option_and_then (λ q. replay_from q ts) (replay_by o p t) ≡ None
    → ((q : RawPart) → replay_from q ts ≡ None → HasWrongTag q ts) → HasWrongTag p (t ∷ ts)
by_action None p t ts unknown none later = inl (0, t, omega arith, refl, unknown)
by_action (Some a) p t ts known none later = by_bad (is_bad a t (length p.entries)) p a t ts known refl none later

refused : (p : RawPart) (ts : List Item) → replay_from p ts ≡ None → HasWrongTag p ts
unfolding replay_from
refused p [] none = cc
refused p (t ∷ ts) none = by_action (action_of (type_of t.word)) p t ts refl none (λ q. refused q ts)

-- ---- entries

either_false : (p q : Bool) (x : StoredEntry) → (if p && q then Some x else None) ≡ None → (p ≡ false) ⊎ (q ≡ false)
either_false false q x none = inl refl
either_false true false x none = inr refl
either_false true true x none = cc

not_complete_by : (n : Option (Kind × Name)) (b : Option StoredBody) (attributes : Attributes) → complete_by n b attributes ≡ None
    → IsIncompleteBy n b ⊎ IsMisnamedBy n
not_complete_by None b attributes none = inl tt
not_complete_by (Some n) None attributes none = inl tt
not_complete_by (Some n) (Some b) attributes none = either_false (kind_takes_body n.0 b) (kind_takes_name n.0 n.1)
    (record { kind = n.0; name = n.1; body = b; attributes = attributes }) none

-- the first entry isn't complete, or a later one isn't
by_first : (e : RawEntry) (es : List RawEntry) (o : Option StoredEntry) (os : Option (List StoredEntry)) → complete e ≡ o → all_complete es ≡ os
    → option_and_then (λ w. option_map (λ ws. w ∷ ws) os) o ≡ None → (all_complete es ≡ None → Any IsIncomplete es ⊎ Any IsMisnamed es)
    → Any IsIncomplete (e ∷ es) ⊎ Any IsMisnamed (e ∷ es)
by_first e es None os first rest none later =
    elim (not_complete_by e.name e.body e.attributes first) [
      | inl h ↦ inl (0, e, omega arith, refl, h)
      | inr h ↦ inr
          (0, e, omega arith, refl, h)
    ]
by_first e es (Some w) None first rest none later = elim (later rest)
    [ inl h ↦ inl (any_later IsIncomplete e es h) | inr h ↦ inr (any_later IsMisnamed e es h) ]
by_first e es (Some w) (Some ws) first rest none later = cc

not_all_complete : (es : List RawEntry) → all_complete es ≡ None → Any IsIncomplete es ⊎ Any IsMisnamed es
not_all_complete [] none = cc
not_all_complete (e ∷ es) none = by_first e es (complete e) (all_complete es) refl refl none (not_all_complete es)

-- ---- pairs

abbrev HasPairCause : Disk → Pair → Type 0
HasPairCause d pair = (f : MountFault) × PairCause f d pair

by_entries : (d : Disk) (pair : Pair) (p : RawPart) (o : Option (List StoredEntry)) → part_of d pair ≡ Some p → all_complete p.entries ≡ o
    → option_map (λ (es : List StoredEntry). let q : StoredPart = record { entries = es; tail = p.tail; delta = p.delta } in q) o ≡ None
    → HasPairCause d pair
by_entries d pair p None part entries none = elim (not_all_complete p.entries entries)
    [ inl h ↦ (fault.IncompleteEntry, (p, part, h)) | inr h ↦ (fault.BadName, (p, part, h)) ]
by_entries d pair p (Some es) part entries none = cc

by_part : (d : Disk) (pair : Pair) (tags : List Item) (o : Option RawPart) → tags_of d pair ≡ Some tags → replay tags ≡ o
    → option_and_then complete_part o ≡ None → HasPairCause d pair
by_part d pair tags None is replayed none = elim (refused empty_part tags replayed)
    [ inl h ↦ (fault.UnknownTag, (tags, is, h)) | inr h ↦ (fault.BadTag, (tags, is, h)) ]
by_part d pair tags (Some p) is replayed none = by_entries d pair p (all_complete p.entries)
    (ap (option_and_then replay) is ∙ replayed) refl none

by_tags : (d : Disk) (pair : Pair) (o : Option (List Item)) → tags_of d pair ≡ o
    → option_and_then complete_part (option_and_then replay o) ≡ None → HasPairCause d pair
by_tags d pair None is none = (fault.NoValidCommit, is)
by_tags d pair (Some tags) is none = by_part d pair tags (replay tags) is refl none

pub partless : PairsWithoutAPartHaveACause
partless d pair none = by_tags d pair (tags_of d pair) refl none
