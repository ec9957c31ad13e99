-- What is saved of entries, case by case.
use Rattle.std.proofs.Common.{◌≡◌, ◌==◌, ◌||◌, arith, inl, inr, ℕ, Bool, true, false, List, [], ◌∷◌, Option, Some, None, if◌then◌else◌, refl, ap, sym, ◌∙◌, subst}
use Rattle.std.specs.Prelude.{Contains, not, slice_index_or}
use Rattle.std.specs.List.{list_any}
use Rattle.std.proofs.lemmas.Bool.{eqb-true}
use Rattle.std.proofs.lemmas.Option.{none-some, same_Some}
use Rattle.lfs_block.specs.Disk.{Disk}
use Rattle.lfs_block.specs.declared.mount_fault.MountFault.{MountFault}
use Rattle.lfs_block.specs.declared.mount_fault.MountFault.TheVariants.{BadSkipList, BlockTwice}
use Rattle.lfs_file.specs.Content.{content}
use Rattle.lfs_file.specs.Laws.{EmptyIsFound}
use Rattle.lfs_file.specs.SkipList.{chain_of}
use Rattle.lfs_meta.specs.Body.{StoredBody, Inline, Chain, Directory_at}
use Rattle.lfs_fs.proofs.ContainsLemmas.{contains_later}
use Rattle.lfs_meta.specs.declared.kind.Kind.{Kind}
use Rattle.lfs_meta.specs.declared.kind.Kind.TheVariants.{File, Dir, Super}
use Rattle.lfs_salvage.specs.Fate.{In_chain, Elsewhere, Lost, chain_fate, head_fate, is_free, is_used, kind_fate, saved_bytes}
use Rattle.lfs_salvage.specs.Shown.{IsLostFor, LostHaveACause, SavedAreShown, ShowsBody}
use Rattle.lfs_salvage.specs.declared.block_use.BlockUse.{BlockUse}
use Rattle.lfs_salvage.specs.declared.block_use.BlockUse.TheVariants as use_of
use Rattle.lfs_salvage.specs.declared.parent.Parent.{Parent}

-- ---- what is saved

module _ (d : Disk) (uses : List BlockUse) (head size : ℕ) where
  saved_any : (t : Bool) (blocks bytes : List ℕ) → chain_of d head size ≡ Some blocks
      → saved_bytes d (Chain head size) (if t then Lost BlockTwice else In_chain head blocks size) ≡ Some bytes → ShowsBody d (Chain head size) bytes
  saved_any true blocks bytes is saved = absurd (none-some bytes saved)
  saved_any false blocks bytes is saved = (blocks, is, sym (same_Some (content d size blocks) bytes saved))

  saved_chain : (o : Option (List ℕ)) (bytes : List ℕ) → chain_of d head size ≡ o
      → saved_bytes d (Chain head size) (chain_fate uses head size o) ≡ Some bytes → ShowsBody d (Chain head size) bytes
  saved_chain None bytes is saved = absurd (none-some bytes saved)
  saved_chain (Some blocks) bytes is saved = saved_any (list_any (is_used uses) blocks) blocks bytes is saved

  saved_same : (t : Bool) (parent : Parent) (bytes : List ℕ)
      → saved_bytes d (Chain head size) (if t then Elsewhere parent else Lost BlockTwice) ≡ Some bytes → ShowsBody d (Chain head size) bytes
  saved_same true parent bytes saved = absurd (none-some bytes saved)
  saved_same false parent bytes saved = absurd (none-some bytes saved)

  saved_head : (u : BlockUse) (bytes : List ℕ) → saved_bytes d (Chain head size) (head_fate d uses head size u) ≡ Some bytes
      → ShowsBody d (Chain head size) bytes
  saved_head use_of.Free bytes saved = saved_chain (chain_of d head size) bytes refl saved
  saved_head (use_of.Part area call) bytes saved = absurd (none-some bytes saved)
  saved_head use_of.Chain bytes saved = absurd (none-some bytes saved)
  saved_head (use_of.Head parent long) bytes saved = saved_same (long == size) parent bytes saved

  saved_size : EmptyIsFound → (t : Bool) (bytes : List ℕ) → (size == 0) ≡ t
      → saved_bytes d (Chain head size) (if t then In_chain head [] size else head_fate d uses head size (slice_index_or uses head use_of.Free))
      ≡ Some bytes → ShowsBody d (Chain head size) bytes
  saved_size empty true bytes is saved = (
    [],
    ap (chain_of d head) (eqb-true size 0 is) ∙ empty d head,
    sym (same_Some (content d size []) bytes saved),
  )
  saved_size empty false bytes is saved = saved_head (slice_index_or uses head use_of.Free) bytes saved

saved_by : EmptyIsFound → (d : Disk) (uses : List BlockUse) (kind : Kind) (body : StoredBody) (bytes : List ℕ)
    → saved_bytes d body (kind_fate d uses kind body) ≡ Some bytes → (kind ≡ File) × ShowsBody d body bytes
saved_by empty d uses File (Inline stored) bytes saved = (refl, sym (same_Some stored bytes saved))
saved_by empty d uses File (Chain head size) bytes saved = (refl, saved_size d uses head size empty (size == 0) bytes refl saved)
saved_by empty d uses File (Directory_at first second) bytes saved = absurd (none-some bytes saved)
saved_by empty d uses Dir (Inline stored) bytes saved = absurd (none-some bytes saved)
saved_by empty d uses Dir (Chain head size) bytes saved = absurd (none-some bytes saved)
saved_by empty d uses Dir (Directory_at first second) bytes saved = absurd (none-some bytes saved)
saved_by empty d uses Super (Inline stored) bytes saved = absurd (none-some bytes saved)
saved_by empty d uses Super (Chain head size) bytes saved = absurd (none-some bytes saved)
saved_by empty d uses Super (Directory_at first second) bytes saved = absurd (none-some bytes saved)

pub saved_shown : EmptyIsFound → SavedAreShown
saved_shown empty d uses e bytes saved = saved_by empty d uses e.kind e.body bytes saved

-- ---- what is lost

no_loss : {P : Type 0} (fault : MountFault) (head size : ℕ) (blocks : List ℕ) → In_chain head blocks size ≡ Lost fault → P
no_loss fault head size blocks is = absurd (cc)

same_loss : (one other : MountFault) → Lost one ≡ Lost other → one ≡ other
same_loss one other is = cc

used_among : (uses : List BlockUse) (b : ℕ) (bs : List ℕ) (t : Bool) → is_used uses b ≡ t → (is_used uses b || list_any (is_used uses) bs) ≡ true
    → (list_any (is_used uses) bs ≡ true → (x : ℕ) × Contains bs x × (is_used uses x ≡ true))
    → (x : ℕ) × Contains (b ∷ bs) x × (is_used uses x ≡ true)
used_among uses b bs true used is later = (b, (0, omega arith, refl), used)
used_among uses b bs false used is later =
    let one = later (subst (λ (t : Bool). (t || list_any (is_used uses) bs) ≡ true) used is) in
    (one.0, contains_later b bs one.0 one.1, one.2)

-- one of these blocks is in use
some_used : (uses : List BlockUse) (blocks : List ℕ) → list_any (is_used uses) blocks ≡ true
    → (b : ℕ) × Contains blocks b × (is_used uses b ≡ true)
some_used uses [] is = absurd (cc)
some_used uses (b ∷ bs) is = used_among uses b bs (is_used uses b) refl is (some_used uses bs)

module _ (d : Disk) (uses : List BlockUse) (head size : ℕ) (fault : MountFault) where
  abbrev Cause : Type 0
  Cause = IsLostFor d uses fault (Chain head size)

  lost_any : (t : Bool) (blocks : List ℕ) → list_any (is_used uses) blocks ≡ t → chain_of d head size ≡ Some blocks
      → (if t then Lost BlockTwice else In_chain head blocks size) ≡ Lost fault → Cause
  lost_any true blocks used is lost =
      let one = some_used uses blocks used in
      subst (λ (f : MountFault). IsLostFor d uses f (Chain head size)) (same_loss BlockTwice fault lost) (inr (blocks, one.0, is, one.1, one.2))
  lost_any false blocks used is lost = no_loss fault head size blocks lost

  lost_chain : (o : Option (List ℕ)) → chain_of d head size ≡ o → chain_fate uses head size o ≡ Lost fault → Cause
  lost_chain None is lost = subst (λ (f : MountFault). IsLostFor d uses f (Chain head size)) (same_loss BadSkipList fault lost) is
  lost_chain (Some blocks) is lost = lost_any (list_any (is_used uses) blocks) blocks refl is lost

  lost_used : is_used uses head ≡ true → Lost BlockTwice ≡ Lost fault → Cause
  lost_used used lost = subst (λ (f : MountFault). IsLostFor d uses f (Chain head size)) (same_loss BlockTwice fault lost) (inl used)

  lost_same : (t : Bool) (parent : Parent) → is_used uses head ≡ true → (if t then Elsewhere parent else Lost BlockTwice) ≡ Lost fault → Cause
  lost_same true parent used lost = absurd (cc)
  lost_same false parent used lost = lost_used used lost

  used_by : (u : BlockUse) → slice_index_or uses head use_of.Free ≡ u → is_free u ≡ false → is_used uses head ≡ true
  used_by u is taken = ap (λ (x : BlockUse). not (is_free x)) is ∙ ap not taken

  lost_head : (u : BlockUse) → slice_index_or uses head use_of.Free ≡ u → head_fate d uses head size u ≡ Lost fault → Cause
  lost_head use_of.Free is lost = lost_chain (chain_of d head size) refl lost
  lost_head (use_of.Part area call) is lost = lost_used (used_by (use_of.Part area call) is refl) lost
  lost_head use_of.Chain is lost = lost_used (used_by use_of.Chain is refl) lost
  lost_head (use_of.Head parent long) is lost = lost_same (long == size) parent (used_by (use_of.Head parent long) is refl) lost

  lost_size : (t : Bool)
      → (if t then In_chain head [] size else head_fate d uses head size (slice_index_or uses head use_of.Free)) ≡ Lost fault → Cause
  lost_size true lost = no_loss fault head size [] lost
  lost_size false lost = lost_head (slice_index_or uses head use_of.Free) refl lost

lost_by : (d : Disk) (uses : List BlockUse) (kind : Kind) (body : StoredBody) (fault : MountFault) → kind_fate d uses kind body ≡ Lost fault
    → (kind ≡ File) × IsLostFor d uses fault body
lost_by d uses File (Inline stored) fault lost = absurd (cc)
lost_by d uses File (Chain head size) fault lost = (refl, lost_size d uses head size fault (size == 0) lost)
lost_by d uses File (Directory_at first second) fault lost = absurd (cc)
lost_by d uses Dir body fault lost = absurd (cc)
lost_by d uses Super body fault lost = absurd (cc)

pub lost_have_cause : LostHaveACause
lost_have_cause d uses e fault lost = lost_by d uses e.kind e.body fault lost
