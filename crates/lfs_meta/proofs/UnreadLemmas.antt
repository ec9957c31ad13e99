-- A pair that has a cause holds no part.
use Rattle.std.proofs.Common.{◌≡◌, ℕ, ◌<◌, true, false, Bool, List, [], ◌∷◌, ◌++◌, length, refl, ap, ◌∙◌, arith, Option, Some, None, suc}
use Rattle.std.proofs.Common.{zero, ◌&&◌}
use Rattle.std.specs.Prelude.{option_and_then, option_map, if◌then◌else◌, slice_index_or}
use Rattle.lfs_block.specs.Disk.{Disk}
use Rattle.lfs_block.specs.declared.mount_fault.MountFault.{MountFault}
use Rattle.lfs_block.specs.declared.mount_fault.MountFault.TheVariants as fault
use Rattle.lfs_tag.specs.Tag.{type_of}
use Rattle.lfs_tag.specs.Commit.{Item}
use Rattle.lfs_meta.specs.declared.action.Action.{Action}
use Rattle.lfs_meta.specs.declared.kind.Kind.{Kind}
use Rattle.lfs_meta.specs.Action.{action_of, is_bad}
use Rattle.lfs_meta.specs.Attribute.{Attributes}
use Rattle.lfs_meta.specs.Body.{Pair, StoredBody}
use Rattle.lfs_meta.specs.Entry.{RawEntry}
use Rattle.lfs_meta.specs.Part.{RawPart, empty_part}
use Rattle.lfs_meta.specs.Replay.{acted, replay_by, step, replay_from, replay, HasBadFrom}
use Rattle.lfs_meta.specs.Complete.{kind_takes_body, kind_takes_name, IsIncompleteBy, IsIncomplete, IsMisnamedBy, IsMisnamed, complete_by, complete}
use Rattle.lfs_meta.specs.Complete.{all_complete, complete_part}
use Rattle.lfs_meta.specs.LiveBlock.{stored_part_of}
use Rattle.lfs_meta.specs.Cause.{PairCause}

and_then-none : {A B : Type 0} (f : A → Option B) (o : Option A) → ((x : A) → f x ≡ None) → option_and_then f o ≡ None
and_then-none f None none = refl
and_then-none f (Some x) none = none x

unknown : (p : RawPart) (ts : List Item) (k : ℕ) (t : Item) → k < length ts → slice_index_or ts k t ≡ t → action_of (type_of t.word) ≡ None
    → replay_from p ts ≡ None
unfolding replay_from
unknown p [] k t within is none = absurd (omega arith)
unknown p (u ∷ ts) zero t within is none =
    ap (λ a. option_and_then (λ q. replay_from q ts) (replay_by a p u)) (ap (λ (i : Item). action_of (type_of i.word)) is ∙ none)
unknown p (u ∷ ts) (suc k) t within is none = and_then-none (λ q. replay_from q ts) (step p u) (λ q. unknown q ts k t (omega arith) is none)

bad-here : (p : RawPart) (t : Item) (after : List Item) (a : Action) → action_of (type_of t.word) ≡ Some a
    → is_bad a t (length p.entries) ≡ true
    → replay_from p (t ∷ after) ≡ None
unfolding replay_from
bad-here p t after a known bad =
    ap (λ o. option_and_then (λ q. replay_from q after) (replay_by o p t)) known
    ∙ ap (λ b. option_and_then (λ q. replay_from q after) (if b then None else Some (acted a t p))) bad

and_then-some : {A B : Type 0} (f g : A → Option B) (o : Option A) (z : B) (w : Option B) → option_and_then f o ≡ Some z
    → ((x : A) → f x ≡ Some z → g x ≡ w) → option_and_then g o ≡ w
and_then-some f g None z w e same = cc
and_then-some f g (Some x) z w e same = same x e

-- a front that replays, and what is behind it
along : (p q : RawPart) (front rest : List Item) → replay_from p front ≡ Some q → replay_from p (front ++ rest) ≡ replay_from q rest
unfolding replay_from
along p q [] rest e = let same : p ≡ q = cc in ap (λ r. replay_from r rest) same
along p q (t ∷ front) rest e =
    and_then-some (λ r. replay_from r front) (λ r. replay_from r (front ++ rest)) (step p t) q (replay_from q rest) e
    (λ r h. along r q front rest h)

bad : (p : RawPart) (ts : List Item) → HasBadFrom p ts → replay_from p ts ≡ None
bad p ts (front, t, after, is, q, replayed, a, known, refused) =
    ap (replay_from p) is ∙ along p q front (t ∷ after) replayed ∙ bad-here q t after a known refused

incomplete_by : (n : Option (Kind × List ℕ)) (b : Option StoredBody) (attributes : Attributes) → IsIncompleteBy n b
    → complete_by n b attributes ≡ None
incomplete_by None b attributes h = refl
incomplete_by (Some n) None attributes h = refl
incomplete_by (Some n) (Some b) attributes h = rw h refl

and_false : (a b : Bool) → b ≡ false → (a && b) ≡ false
and_false true b e = e
and_false false b e = refl

misnamed_by : (n : Option (Kind × List ℕ)) (b : Option StoredBody) (attributes : Attributes) → IsMisnamedBy n
    → complete_by n b attributes ≡ None
misnamed_by None b attributes h = refl
misnamed_by (Some n) None attributes h = refl
misnamed_by (Some n) (Some b) attributes h =
    ap (λ t. if t then Some (record { kind = n.0; name = n.1; body = b; attributes = attributes }) else None)
    (and_false (kind_takes_body n.0 b) (kind_takes_name n.0 n.1) h)

-- one entry that isn't complete
not_complete : (P : RawEntry → Type 0) → ((e : RawEntry) → P e → complete e ≡ None) → (es : List RawEntry) (k : ℕ) (e : RawEntry)
    → k < length es → slice_index_or es k e ≡ e → P e → all_complete es ≡ None
not_complete P none [] k e within is h = absurd (omega arith)
not_complete P none (x ∷ es) zero e within is h = ap (option_and_then (λ w. option_map (λ ws. w ∷ ws) (all_complete es))) (ap complete is ∙ none e h)
not_complete P none (x ∷ es) (suc k) e within is h =
    and_then-none (λ w. option_map (λ ws. w ∷ ws) (all_complete es)) (complete x)
    (λ w. ap (option_map (λ ws. w ∷ ws)) (not_complete P none es k e (omega arith) is h))

pub unread : (f : MountFault) (d : Disk) (pair : Pair) → PairCause f d pair → stored_part_of d pair ≡ None
unread fault.NoValidCommit d pair none = ap (λ o. option_and_then complete_part (option_and_then replay o)) none
unread fault.UnknownTag d pair (tags, is, h) =
    ap (λ o. option_and_then complete_part (option_and_then replay o)) is ∙ ap (option_and_then complete_part)
    (unknown empty_part tags h.0 h.1 h.2 h.3 h.4)
unread fault.BadTag d pair (tags, is, h) =
    ap (λ o. option_and_then complete_part (option_and_then replay o)) is ∙ ap (option_and_then complete_part) (bad empty_part tags h)
unread fault.IncompleteEntry d pair (p, is, h) =
    ap (option_and_then complete_part) is
    ∙ ap (option_map (λ es. record { entries = es; tail = p.tail; delta = p.delta }))
    (not_complete IsIncomplete (λ e i. incomplete_by e.name e.body e.attributes i) p.entries h.0 h.1 h.2 h.3 h.4)
unread fault.BadName d pair (p, is, h) =
    ap (option_and_then complete_part) is
    ∙ ap (option_map (λ es. record { entries = es; tail = p.tail; delta = p.delta }))
    (not_complete IsMisnamed (λ e i. misnamed_by e.name e.body e.attributes i) p.entries h.0 h.1 h.2 h.3 h.4)
unread _ d pair h = absurd h
