-- What is refused of the root's first pair is a cause of the image, and where the superblock has one it comes first.
use Rattle.std.proofs.Common.{◌≡◌, ℕ, ◌≤◌, List, [], ◌∷◌, Some, None, Option, refl, ap, sym, ◌∙◌, subst, arith}
use Rattle.std.proofs.lemmas.Bool.Decides.{nat_tests}
use mathlib.Core.Logic.{inl, inr}
use Rattle.lfs_block.specs.Disk.{Disk}
use Rattle.lfs_block.specs.declared.mount_fault.MountFault.{MountFault}
use Rattle.lfs_block.specs.declared.mount_fault.MountFault.TheVariants as fault
use Rattle.lfs_meta.specs.Attribute.{Attributes}
use Rattle.lfs_meta.specs.Cause.{ReadCause}
use Rattle.lfs_meta.specs.Entry.{StoredEntry}
use Rattle.lfs_meta.specs.Laws.{UnreadPairsHoldNoPart}
use Rattle.lfs_meta.specs.Part.{StoredPart}
use Rattle.lfs_fs.specs.Pair.{root}
use Rattle.lfs_fs.specs.Cause.{HasCause}
use Rattle.lfs_fs.specs.Front.{IsFront}
use Rattle.lfs_fs.specs.Header.{HeaderCause, IsHeader}
use Rattle.lfs_fs.specs.Judged.{IsSuperblockWith}
use Rattle.lfs_fs.specs.Reading.{Reading, reading_of}
use Rattle.lfs_fs.specs.Superblock.{HasSuperblock, IsSuperblock, superblock_entry}
use Rattle.lfs_fs.specs.SuperblockCause.{SuperblockIs}
use Rattle.lfs_fs.specs.SuperblockFirst.{BlamesSuperblock, FirstRefused, FirstTaken, HasGoodSuperblock, HeaderRefused, IsOfSuperblock}
use Rattle.lfs_fs.proofs.GatherCauseLemmas.{no_first}
use Rattle.lfs_fs.proofs.SuperblockLemmas.{super_by}
use Rattle.lfs_fs.proofs.ThreadReadLemmas.{unread_pair}

-- ---- the first entry

-- the superblock of an image is the first entry of its root's first part
first_is : (r : Reading) (s : StoredPart) (e : StoredEntry) (others : List StoredEntry) (bytes : List ℕ) (attributes : Attributes)
    → r.part root ≡ Some s → s.entries ≡ e ∷ others → HasSuperblock r bytes attributes → superblock_entry bytes attributes ≡ e
first_is r s e others bytes attributes read entries super =
    let part : super.part ≡ s = cc (super.read, read) in
    let first : superblock_entry bytes attributes ∷ super.others ≡ e ∷ others =
    sym super.is ∙ ap (λ (x : StoredPart). x.entries) part ∙ entries in
    cc

is_superblock : (e : StoredEntry) (bytes : List ℕ) (attributes : Attributes) (r : Reading) → HasSuperblock r bytes attributes
    → superblock_entry bytes attributes ≡ e → IsSuperblock e bytes
is_superblock e bytes attributes r super same =
    subst (λ (x : StoredEntry). IsSuperblock x bytes) same (record { kind = refl; name = refl; body = refl; len = super.len })

has_superblock : (r : Reading) (s : StoredPart) (e : StoredEntry) (others : List StoredEntry) (bytes : List ℕ)
    → r.part root ≡ Some s → s.entries ≡ e ∷ others → IsSuperblock e bytes → HasSuperblock r bytes e.attributes
has_superblock r s e others bytes read entries is = record {
  part = s;
  read = read;
  others = others;
  is = entries ∙ ap (λ (x : StoredEntry). x ∷ others) (super_by e bytes is);
  len = is.len;
}

wrong_words : (r : Reading) (s : StoredPart) (e : StoredEntry) (others : List StoredEntry) (these : List ℕ → Type 0)
    → r.part root ≡ Some s → s.entries ≡ e ∷ others → IsSuperblockWith e these → SuperblockIs r these
wrong_words r s e others these read entries says = record {
  bytes = says.bytes;
  attributes = e.attributes;
  superblock = has_superblock r s e others says.bytes read entries says.is;
  is = says.says;
}

-- ---- what is refused

header_refuses : (d : Disk) (f : MountFault) (s : StoredPart) (e : StoredEntry) (others : List StoredEntry)
    → (reading_of d).part root ≡ Some s → s.entries ≡ e ∷ others → HeaderRefused f d.size d.count e → HasCause d f × IsOfSuperblock f
header_refuses d fault.NoSuperblock s e others read entries refused = (
  record {
    part = s;
    read = read;
    none = λ bytes attributes super.
        refused bytes (is_superblock e bytes attributes (reading_of d) super (first_is (reading_of d) s e others bytes attributes read entries super));
  },
  tt,
)
header_refuses d fault.Version s e others read entries refused =
    (wrong_words (reading_of d) s e others (HeaderCause fault.Version d.size d.count) read entries refused, tt)
header_refuses d fault.Geometry s e others read entries refused =
    (wrong_words (reading_of d) s e others (HeaderCause fault.Geometry d.size d.count) read entries refused, tt)
header_refuses d fault.Limits s e others read entries refused =
    (wrong_words (reading_of d) s e others (HeaderCause fault.Limits d.size d.count) read entries refused, tt)
header_refuses d _ s e others read entries refused = absurd refused.says

first_by : (d : Disk) (f : MountFault) (s : StoredPart) (es : List StoredEntry) → (reading_of d).part root ≡ Some s → s.entries ≡ es
    → FirstRefused f d.size d.count es → HasCause d f × IsOfSuperblock f
first_by d fault.NoSuperblock s [] read none refused = (
  record { part = s; read = read; none = λ bytes attributes super. no_first (reading_of d) s bytes attributes read none super },
  tt,
)
first_by d _ s [] read none refused = absurd refused
first_by d f s (e ∷ es) read entries refused = header_refuses d f s e es read entries refused

-- the first entry of the root's first part is refused
pub first_refuses : (d : Disk) (f : MountFault) (s : StoredPart) → (reading_of d).part root ≡ Some s
    → FirstRefused f d.size d.count s.entries → HasCause d f × IsOfSuperblock f
first_refuses d f s read refused = first_by d f s s.entries read refl refused

-- ---- the root's first pair

root_front : (r : Reading) → 2 ≤ r.count → IsFront r (root ∷ [])
root_front r two = record {
  follow = (refl, tt);
  within = λ b some. grind (arith, nat_tests);
  once = λ b. grind (arith, nat_tests);
}

pub root_unread : (d : Disk) (f : MountFault) → 2 ≤ d.count → ReadCause f d root → HasCause d f
root_unread d f two cause = unread_pair d f [] root (root_front (reading_of d) two) cause

-- ---- what comes first

-- a superblock with other words isn't there
no_wrong : (r : Reading) (s : StoredPart) (e : StoredEntry) (others : List StoredEntry) (good these : List ℕ → Type 0)
    → r.part root ≡ Some s → s.entries ≡ e ∷ others → IsSuperblockWith e good → ((bytes : List ℕ) → good bytes → these bytes → ⊥)
    → SuperblockIs r these → ⊥
no_wrong r s e others good these read entries says not_both wrong =
    let same = first_is r s e others wrong.bytes wrong.attributes read entries wrong.superblock in
    let is = is_superblock e wrong.bytes wrong.attributes r wrong.superblock same in
    let bytes : wrong.bytes ≡ says.bytes = let bodies = sym is.body ∙ says.is.body in cc in
    not_both says.bytes says.says (subst these bytes wrong.is)

good_by : (d : Disk) (s : StoredPart) (es : List StoredEntry) → (reading_of d).part root ≡ Some s → s.entries ≡ es
    → FirstTaken d.size d.count es → HasGoodSuperblock d
good_by d s [] read entries taken cause of has = absurd taken
good_by d s (e ∷ es) read entries taken fault.NoSuperblock of has =
    has.none taken.bytes e.attributes (has_superblock (reading_of d) s e es taken.bytes read entries taken.is)
good_by d s (e ∷ es) read entries taken fault.Version of has =
    no_wrong (reading_of d) s e es (IsHeader d.size d.count) _ read entries taken (λ bytes is wrong. wrong is.version) has
good_by d s (e ∷ es) read entries taken fault.Geometry of has =
    no_wrong (reading_of d) s e es (IsHeader d.size d.count) _ read entries taken
    (λ bytes is wrong. elim wrong [
      | inl size ↦ size is.size_is
      | inr count ↦ count is.count_is
    ]) has
good_by d s (e ∷ es) read entries taken fault.Limits of has =
    no_wrong (reading_of d) s e es (IsHeader d.size d.count) _ read entries taken (λ bytes is wrong. wrong is.limits) has
good_by d s (e ∷ es) read entries taken _ of has = absurd of

-- where the first entry is taken the superblock has no cause
pub first_taken : (d : Disk) (s : StoredPart) → (reading_of d).part root ≡ Some s → FirstTaken d.size d.count s.entries → HasGoodSuperblock d
first_taken d s read taken = good_by d s s.entries read refl taken

-- where the pair isn't read it has none either
some_none : {X : Type 0} (x : X) (o : Option X) → o ≡ None → o ≡ Some x → ⊥
some_none x None none some = cc
some_none x (Some y) none some = cc

unread_good : (d : Disk) → (reading_of d).part root ≡ None → HasGoodSuperblock d
unread_good d none fault.NoSuperblock of cause = some_none cause.part _ none cause.read
unread_good d none fault.Version of cause = some_none cause.superblock.part _ none cause.superblock.read
unread_good d none fault.Geometry of cause = some_none cause.superblock.part _ none cause.superblock.read
unread_good d none fault.Limits of cause = some_none cause.superblock.part _ none cause.superblock.read
unread_good d none _ of cause = absurd of

-- a pair that isn't read is blamed for that, unless memory was wanting
pub unread_blames : UnreadPairsHoldNoPart → (d : Disk) (f : MountFault) → ReadCause f d root → BlamesSuperblock d f
unread_blames law d fault.Memory refused = λ cause of has. inr refl
unread_blames law d f refused = λ cause of has. absurd (unread_good d (law f d root refused) cause of has)

-- what is refused behind a good superblock blames anything
pub good_blames : (d : Disk) (f : MountFault) → HasGoodSuperblock d → BlamesSuperblock d f
good_blames d f good = λ cause of has. absurd (good cause of has)
