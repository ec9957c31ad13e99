-- What an image mounts to is determined.
use Rattle.std.proofs.Common.{◌≡◌, List, [], ◌∷◌, ◌++◌, Option, Some, ap, sym, ◌∙◌, subst, append-nil}
use Rattle.std.proofs.lemmas.Option.{none-some}
use Rattle.std.specs.Prelude.{ℕ}
use mathlib.Core.Logic.{inl, inr}
use Rattle.lfs_meta.specs.Attribute.{Attributes}
use Rattle.lfs_meta.specs.Body.{Pair, Inline}
use Rattle.lfs_meta.specs.Entry.{StoredEntry}
use Rattle.lfs_fs.specs.Pair.{root}
use Rattle.lfs_fs.specs.Volume.{Volume}
use Rattle.lfs_fs.specs.Tree.{entry_at, tree}
use Rattle.lfs_fs.specs.Free.{free_blocks}
use Rattle.lfs_fs.specs.Outlined.{outlined}
use Rattle.lfs_fs.specs.Row.{Row, AreRows}
use Rattle.lfs_fs.specs.Reading.{Reading, reading_of}
use Rattle.lfs_fs.specs.Front.{Follow, after, next_pair, Begins, IsFront, IsThread}
use Rattle.lfs_fs.specs.Superblock.{HasSuperblock, header_of}
use Rattle.lfs_fs.specs.Held.{volume_at}
use Rattle.lfs_fs.specs.Holds.{VolumesAreOne}
use Rattle.lfs_fs.specs.Mounts.{TreesAreOne}
use Rattle.lfs_fs.specs.Mounted.{MountedValue, MountsAreOne}
use Rattle.lfs_fs.proofs.FrontLemmas.{fronts_begin_each_other}
use Rattle.lfs_fs.proofs.RowLemmas.{rows_are_unique}

-- what follows a beginning of a list is what comes next in it
pub follow_after : (step : Pair → Option Pair) (from : Option Pair) (ps : List Pair) (q : Pair) (rest : List Pair)
    → Follow step from (ps ++ q ∷ rest) → after step from ps ≡ Some q
follow_after step from [] q rest h = h.0
follow_after step from (p ∷ ps) q rest h = follow_after step (step p) ps q rest h.1

-- nothing follows a thread
no_more : (r : Reading) (ps rest : List Pair) → IsThread r ps → Follow (next_pair r) (Some root) (ps ++ rest) → ps ++ rest ≡ ps
no_more r ps [] h follow = append-nil ps
no_more r ps (q ∷ rest) h follow = absurd (none-some q (sym h.ends ∙ follow_after (next_pair r) (Some root) ps q rest follow))

-- a front that a thread begins is the thread
pub begun_by_thread : (r : Reading) (ps qs : List Pair) → IsThread r ps → IsFront r qs → Begins ps qs → qs ≡ ps
begun_by_thread r ps qs h k begins = begins.1 ∙ no_more r ps begins.0 h (subst (Follow (next_pair r) (Some root)) begins.1 k.follow)

pub one_thread : (r : Reading) (ps qs : List Pair) → IsThread r ps → IsThread r qs → ps ≡ qs
one_thread r ps qs h k = elim (fronts_begin_each_other r ps qs h.front k.front)
    [ inl b ↦ sym (begun_by_thread r ps qs h k.front b) | inr b ↦ begun_by_thread r qs ps k h.front b ]

first_same : (x y : StoredEntry) (xs ys : List StoredEntry) → x ∷ xs ≡ y ∷ ys → x ≡ y
first_same x y xs ys h = cc

inline_same : (b c : List ℕ) → Inline b ≡ Inline c → b ≡ c
inline_same b c h = cc

-- an image has one superblock
pub one_superblock : (r : Reading) (b c : List ℕ) (a e : Attributes) → HasSuperblock r b a → HasSuperblock r c e → (b ≡ c) × (a ≡ e)
one_superblock r b c a e h k =
    let part : h.part ≡ k.part = cc (h.read, k.read) in
    let same = first_same _ _ h.others k.others (sym h.is ∙ ap (λ x. x.entries) part ∙ k.is) in
    (inline_same b c (ap (λ (x : StoredEntry). x.body) same), ap (λ (x : StoredEntry). x.attributes) same)

pub one_volume : VolumesAreOne
one_volume r v w h k =
    let ps = one_thread r h.pairs k.pairs h.is_thread k.is_thread in
    let both = one_superblock r h.bytes k.bytes h.attributes k.attributes h.superblock k.superblock in
    h.is
    ∙ ap (λ (b : List ℕ). volume_at r (header_of b h.attributes) h.pairs) both.0
    ∙ ap (λ (a : Attributes). volume_at r (header_of k.bytes a) h.pairs) both.1
    ∙ ap (λ (x : List Pair). volume_at r (header_of k.bytes k.attributes) x) ps
    ∙ sym k.is

pub one_tree : TreesAreOne
one_tree d t u (v, holds, sound, is) (w, holds', sound', is') p = is p
    ∙ ap (λ (x : Volume). tree x p) (one_volume (reading_of d) v w holds holds') ∙ sym (is' p)

same_value : (m n : MountedValue) → m.outline ≡ n.outline → m.rows ≡ n.rows → m.free ≡ n.free → m ≡ n
same_value m n outline rows free =
    ap (λ (x : Volume). record { outline = x; rows = m.rows; free = m.free }) outline
    ∙ ap (λ (x : List Row). record { outline = n.outline; rows = x; free = m.free }) rows
    ∙ ap (λ (x : List ℕ). record { outline = n.outline; rows = n.rows; free = x }) free

pub one_mount : MountsAreOne
one_mount d m n h k =
    let same = one_volume (reading_of d) h.volume k.volume h.holds k.holds in
    let outline : m.outline ≡ n.outline = h.outline ∙ ap outlined same ∙ sym k.outline in
    same_value m n outline
    (rows_are_unique (entry_at n.outline) m.rows n.rows (subst (λ (v : Volume). AreRows (entry_at v) m.rows) outline h.rows) k.rows)
    (h.free ∙ ap free_blocks same ∙ sym k.free)
