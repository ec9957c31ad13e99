-- The entries of parts with one superblock are complete.
use Rattle.std.proofs.Common.{◌≡◌, Bool, true, false, List, [], ◌∷◌, map, Option, Some, None, refl, ◌∙◌}
use Rattle.std.specs.Prelude.{All, IfSome, if◌then◌else◌, option_map}
use Rattle.std.specs.List.{AllByRecursion}
use Rattle.std.proofs.lemmas.List.Elements.{All-cons, All-head, All-map, All-tail, All-weaker}
use Rattle.lfs_meta.specs.declared.kind.Kind.{Kind}
use Rattle.lfs_meta.specs.declared.kind.Kind.TheVariants.{File, Dir, Super}
use Rattle.lfs_meta.specs.Body.{StoredBody, Inline, Chain, Directory_at}
use Rattle.lfs_meta.specs.Entry.{StoredEntry}
use Rattle.lfs_meta.specs.Complete.{IsComplete, kind_takes_body}
use Rattle.lfs_fs.specs.Gathering.{PairPart}
use Rattle.lfs_lower.specs.OneSuperblock.{behind_superblock, entry_or, is_superblock, lowered_body, lowered_entry, superblock_in}
use Rattle.lfs_lower.specs.Joining.{last_in, led_parts, lowered_in, stripped, with_first, with_one}

-- a part whose entries are complete
abbrev pub AreComplete : PairPart → Type 0
AreComplete p = AllByRecursion IsComplete p.1.entries

takes_lowered : (kind : Kind) (body : StoredBody) → kind_takes_body kind (lowered_body body) ≡ kind_takes_body kind body
takes_lowered File (Inline bytes) = refl
takes_lowered File (Chain head size) = refl
takes_lowered File (Directory_at first second) = refl
takes_lowered Dir (Inline bytes) = refl
takes_lowered Dir (Chain head size) = refl
takes_lowered Dir (Directory_at first second) = refl
takes_lowered Super (Inline bytes) = refl
takes_lowered Super (Chain head size) = refl
takes_lowered Super (Directory_at first second) = refl

lowered_complete : (e : StoredEntry) → IsComplete e → IsComplete (lowered_entry e)
lowered_complete e h = record { body = takes_lowered e.kind e.body ∙ h.body; name = h.name }

behind_by : (t : Bool) (e : StoredEntry) (es : List StoredEntry) → IsComplete e → AllByRecursion IsComplete es
    → AllByRecursion IsComplete (if t then es else e ∷ es)
behind_by true e es one rest = rest
behind_by false e es one rest = (one, rest)

behind_complete : (es : List StoredEntry) → AllByRecursion IsComplete es → AllByRecursion IsComplete (behind_superblock es)
behind_complete [] h = h
behind_complete (e ∷ es) h = behind_by (is_superblock e) e es h.0 h.1

superblock_by : (t : Bool) (e : StoredEntry) → IsComplete e → IfSome (option_map lowered_entry (if t then Some e else None)) IsComplete
superblock_by true e one = lowered_complete e one
superblock_by false e one = tt

superblock_complete : (es : List StoredEntry) → AllByRecursion IsComplete es → IfSome (option_map lowered_entry (superblock_in es)) IsComplete
superblock_complete [] h = tt
superblock_complete (e ∷ es) h = superblock_by (is_superblock e) e h.0

or_complete : (a b : Option StoredEntry) → IfSome a IsComplete → IfSome b IsComplete → IfSome (entry_or a b) IsComplete
or_complete None b h k = k
or_complete (Some e) b h k = h

last_complete : (found : Option StoredEntry) (ps : List PairPart) → IfSome found IsComplete → All AreComplete ps → IfSome (last_in found ps) IsComplete
last_complete found [] h each = h
last_complete found (p ∷ ps) h each =
    last_complete (entry_or (lowered_in p) found) ps
    (or_complete (lowered_in p) found (superblock_complete p.1.entries (All-head AreComplete p ps each)) h) (All-tail AreComplete p ps each)

with_complete : (e : StoredEntry) (ps : List PairPart) → IsComplete e → All AreComplete ps → All AreComplete (with_first e ps)
with_complete e [] one each = each
with_complete e (p ∷ ps) one each =
    All-cons AreComplete (p.0, record { entries = e ∷ p.1.entries; tail = p.1.tail; delta = p.1.delta }) ps
    (one, All-head AreComplete p ps each) (All-tail AreComplete p ps each)

led_complete : (e : Option StoredEntry) (ps : List PairPart) → IfSome e IsComplete → All AreComplete ps → All AreComplete (led_parts e ps)
led_complete None ps one each = each
led_complete (Some e) ps one each = with_complete e ps one each

-- all of them are
pub parts_complete : (ps : List PairPart) → All AreComplete ps → All AreComplete (with_one ps)
parts_complete ps each =
    led_complete (last_in None ps) (map stripped ps) (last_complete None ps tt each)
    (All-map AreComplete stripped ps (All-weaker AreComplete (λ (p : PairPart). AreComplete (stripped p)) (λ p h. behind_complete p.1.entries h) ps each))

-- parts whose superblocks are taken off, and whose last one is put first, have one superblock
pub made_one : (ps mid led : List PairPart) (last : Option StoredEntry) → led ≡ led_parts last mid → last ≡ last_in None ps
    → mid ≡ map stripped ps → led ≡ with_one ps
made_one ps mid led last first taken behind = cc
