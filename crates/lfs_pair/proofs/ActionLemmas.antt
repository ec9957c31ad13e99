-- What a tag does, by its type.
use Rattle.std.proofs.Common.{◌≡◌, ℕ, ◌+◌, ◌/◌, ◌<◌, ◌==◌, ◌&&◌, ◌||◌, not, Bool, false, if◌then◌else◌, length, refl, ap, ◌∙◌, arith}
use Rattle.std.proofs.Common.{Some, None, nat_le, nat_lt}
use Rattle.std.specs.Prelude.{insert, remove}
use Rattle.std.proofs.lemmas.Bool.Decides.{nat_tests}
use Rattle.lfs_tag.specs.Commit.{Item}
use Rattle.lfs_tag.specs.Tag.{type_of, id_of, len_of}
use Rattle.lfs_meta.specs.declared.kind.Kind.{Kind}
use Rattle.lfs_meta.specs.declared.kind.Kind.TheVariants.{File, Dir, Super}
use Rattle.lfs_meta.specs.Action.{action_of, is_bad, is_deleted}
use Rattle.lfs_meta.specs.Body.{StoredBody, Inline, Chain, Directory_at}
use Rattle.lfs_meta.specs.Entry.{blank}
use Rattle.lfs_meta.specs.Part.{RawPart}
use Rattle.lfs_meta.specs.Replay.{at_entry, up_to, named_by, embodied_by, attributed_by, with_raw_entries, acted, replay_by, step}
use Rattle.lfs_pair.specs.Spelling.{name_kind, body_kind}

-- a tag of a type whose action is known, and that isn't bad
pub stepped : (p q : RawPart) (t : Item) (kind : ℕ) (bad : Bool) → type_of t.word ≡ kind
    → replay_by (action_of kind) p t ≡ (if bad then None else Some q) → bad ≡ false → step p t ≡ Some q
stepped p q t kind bad is acts good =
    ap (λ (k : ℕ). replay_by (action_of k) p t) is ∙ acts ∙ ap (λ (b : Bool). if b then None else Some q) good

pub create-acts : (p : RawPart) (t : Item) → replay_by (action_of 0x401) p t
    ≡ (if nat_lt (length p.entries) (id_of t.word) || (id_of t.word == 0x3ff) || not (len_of t.word == 0) then None
    else Some (with_raw_entries p (insert p.entries (id_of t.word) blank)))
unfolding action_of is_bad acted
create-acts p t = refl

pub delete-acts : (p : RawPart) (t : Item) → replay_by (action_of 0x4ff) p t
    ≡ (if nat_le (length p.entries) (id_of t.word) || not (len_of t.word == 0) then None
    else Some (with_raw_entries p (remove p.entries (id_of t.word))))
unfolding action_of is_bad acted
delete-acts p t = refl

pub name-acts : (k : Kind) (p : RawPart) (t : Item) → replay_by (action_of (name_kind k)) p t
    ≡ (if (id_of t.word == 0x3ff) || is_deleted t then None
    else Some (with_raw_entries p (at_entry (id_of t.word) (named_by t) (up_to (id_of t.word) p.entries))))
unfolding action_of is_bad acted
name-acts File p t = refl
name-acts Dir p t = refl
name-acts Super p t = refl

pub body-acts : (b : StoredBody) (p : RawPart) (t : Item) → replay_by (action_of (body_kind b)) p t
    ≡ (if nat_le (length p.entries) (id_of t.word) || is_deleted t || (not (type_of t.word == 0x201) && not (len_of t.word == 8)) then None
    else Some (with_raw_entries p (at_entry (id_of t.word) (embodied_by t) p.entries)))
unfolding action_of is_bad acted
body-acts (Inline bytes) p t = refl
body-acts (Chain head size) p t = refl
body-acts (Directory_at first second) p t = refl

pub attribute-acts : (k : ℕ) (p : RawPart) (t : Item) → k < 256 → replay_by (action_of (0x300 + k)) p t
    ≡ (if nat_le (length p.entries) (id_of t.word) then None
    else Some (with_raw_entries p (at_entry (id_of t.word) (attributed_by t) p.entries)))
unfolding action_of is_bad acted
attribute-acts k p t h =
    let create : (0x300 + k == 0x401) ≡ false = grind (arith, nat_tests) in
    let delete : (0x300 + k == 0x4ff) ≡ false = grind (arith, nat_tests) in
    let file : (0x300 + k == 0x001) ≡ false = grind (arith, nat_tests) in
    let dir : (0x300 + k == 0x002) ≡ false = grind (arith, nat_tests) in
    let super' : (0x300 + k == 0x0ff) ≡ false = grind (arith, nat_tests) in
    let leads : (0x300 + k == 0x200) ≡ false = grind (arith, nat_tests) in
    let inline : (0x300 + k == 0x201) ≡ false = grind (arith, nat_tests) in
    let ctz : (0x300 + k == 0x202) ≡ false = grind (arith, nat_tests) in
    let main : (0x300 + k) / 256 ≡ 3 = omega arith in
    rw (create, delete, file, dir, super', leads, inline, ctz, main) refl

pub delta-acts : (p : RawPart) (t : Item) → replay_by (action_of 0x7ff) p t
    ≡ (if not (len_of t.word == 12) then None else Some (record { entries = p.entries; tail = p.tail; delta = t.content }))
unfolding action_of is_bad acted
delta-acts p t = refl
