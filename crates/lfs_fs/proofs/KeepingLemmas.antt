-- One entry kept.
use Rattle.std.proofs.Common.{◌≡◌, ◌≢◌, ℕ, ◌+◌, ◌<◌, ◌≤◌, Bool, true, false, List, [], ◌∷◌, ◌++◌, length, Option, Some, None, refl, ap}
use Rattle.std.proofs.Common.{sym, ◌∙◌, subst, arith}
use Rattle.std.specs.Prelude.{All, IsSome, sum_by, MatchBool}
use Rattle.std.specs.List.{Any}
use mathlib.Core.Logic.{inl, inr}
use Rattle.lfs_block.specs.Disk.{Disk}
use Rattle.lfs_file.specs.SkipList.{chain_of}
use Rattle.lfs_file.specs.Content.{content}
use Rattle.lfs_meta.specs.declared.kind.Kind.{Kind}
use Rattle.lfs_meta.specs.declared.kind.Kind.TheVariants.{File, Dir, Super}
use Rattle.lfs_meta.specs.Attribute.{Attributes}
use Rattle.lfs_meta.specs.Body.{StoredBody, Inline as Stored_inline, Chain as Stored_chain, Directory_at as Stored_directory}
use Rattle.lfs_meta.specs.Entry.{StoredEntry}
use Rattle.lfs_meta.specs.Fits.{RiseFrom}
use Rattle.lfs_meta.specs.Name.{Name, IsName}
use Rattle.lfs_meta.specs.Laws.{NamesAreDecided}
use Rattle.lfs_meta.specs.Complete.{IsComplete}
use Rattle.lfs_meta.specs.Complete.{kind_takes_body, kind_takes_name}
use Rattle.lfs_fs.specs.declared.limits.Limits.{Limits}
use Rattle.lfs_fs.specs.Entry.{Entry, Body, Chain, body_length}
use Rattle.lfs_fs.specs.Uses.{entry_uses, body_uses}
use Rattle.lfs_fs.specs.Used.{marked, AddsBlocks}
use Rattle.lfs_fs.specs.Reading.{Reading, reading_of}
use Rattle.lfs_fs.specs.Held.{chained, resolved_body, resolved}
use Rattle.lfs_fs.specs.FrontCause.{IsOversized, stored_size, stored_name_length}
use Rattle.lfs_fs.specs.Outlined.{blank, outlined_body}
use Rattle.lfs_fs.specs.Gathering.{HasNoChain, stored_length, KeepsBody, IsWithin, stored_uses}
use Rattle.lfs_fs.proofs.SuperblockLemmas.{are_attributes}
use Rattle.lfs_fs.proofs.ResolvedLemmas.{stood_for, resolved_is}

-- ---- limits

complete_name : (kind : Kind) (name : Name) → kind ≢ Super → stored_name_length kind name ≡ length name
complete_name File name other = refl
complete_name Dir name other = refl
complete_name Super name other = absurd (other refl)

pub long_name : (l : Limits) (e : StoredEntry) → e.kind ≢ Super → l.name < length e.name → IsOversized l e
long_name l e other long = let same = complete_name e.kind e.name other in inl (omega arith)

complete_size : (kind : Kind) (body : StoredBody) → kind ≢ Super → kind_takes_body kind body ≡ true
    → stored_size kind body ≡ stored_length body
complete_size File (Stored_inline bytes) other takes' = refl
complete_size File (Stored_chain head size) other takes' = refl
complete_size File (Stored_directory first second) other takes' = refl
complete_size Dir (Stored_inline bytes) other takes' = cc
complete_size Dir (Stored_chain head size) other takes' = cc
complete_size Dir (Stored_directory first second) other takes' = refl
complete_size Super body other takes' = absurd (other refl)

pub long_file : (l : Limits) (e : StoredEntry) → e.kind ≢ Super → IsComplete e → l.file < stored_length e.body → IsOversized l e
long_file l e other complete long = let same = complete_size e.kind e.body other complete.body in inr (inl (omega arith))

-- the attributes decide, where the name and the size fit
pub attributes_decide : (fit : Bool) (l : Limits) (e : StoredEntry) (a : Attributes) → a ≡ e.attributes → length e.name ≤ l.name
    → stored_length e.body ≤ l.file → RiseFrom 0 e.attributes
    → MatchBool fit (All (λ (x : ℕ × List ℕ). length x.1 ≤ l.attribute) a) (Any (λ (x : ℕ × List ℕ). l.attribute < length x.1) a)
    → MatchBool fit (IsWithin l e) (IsOversized l e)
attributes_decide true l e a is name size rise fits = record {
  name = name;
  size = size;
  attributes = are_attributes l.attribute 0 e.attributes rise (subst (All (λ (x : ℕ × List ℕ). length x.1 ≤ l.attribute)) is fits);
}
attributes_decide false l e a is name size rise long = inr (inr (subst (Any (λ (x : ℕ × List ℕ). l.attribute < length x.1)) is long))

-- ---- the body

-- a chain that is found is kept with its size
pub chain_kept : (d : Disk) (old new : List Bool) (head size : ℕ) (blocks : List ℕ) → chain_of d head size ≡ Some blocks
    → length (content d size blocks) ≡ size → AddsBlocks old new blocks
    → KeepsBody (reading_of d) old new (Stored_chain head size) (Chain blocks (blank size))
chain_kept d old new head size blocks found len adds =
    let body : resolved_body (reading_of d) (Stored_chain head size) ≡ Chain blocks (content d size blocks) =
    ap (chained (reading_of d) size) found in
    record {
      is = ap (λ n. Chain blocks (blank n)) (sym len) ∙ ap outlined_body (sym body);
      len = adds.len;
      marks = λ b. adds.marks b ∙ ap (λ (x : Body). marked old b + body_uses b x) (sym body);
      chain = λ none. cc;
      size = ap body_length body ∙ len;
    }

-- ---- the entry

pub named : (kind : Kind) (name : Name) → NamesAreDecided → kind ≢ Super → kind_takes_name kind name ≡ true → IsName name
named File name law other takes' = (law name).0 takes'
named Dir name law other takes' = (law name).0 takes'
named Super name law other takes' = absurd (other refl)

some_chain : (found : Option (List ℕ)) → (found ≡ None → ⊥) → IsSome found
some_chain None there = absurd (there refl)
some_chain (Some blocks) there = refl

chain_there : (r : Reading) (body : StoredBody) → (HasNoChain r body → ⊥) → (head size : ℕ) → body ≡ Stored_chain head size
    → IsSome (r.chain head size)
chain_there r body there head size is = some_chain (r.chain head size) (λ none. there (subst (HasNoChain r) (sym is) none))

one_use : (r : Reading) (b : ℕ) (e : StoredEntry) → e.kind ≢ Super → stored_uses r b (e ∷ []) ≡ body_uses b (resolved_body r e.body)
one_use r b e other =
    let one : resolved r e ≡ stood_for r e ∷ [] = resolved_is r e other in
    ap (λ (es : List Entry). sum_by (entry_uses b) (es ++ [])) one ∙ omega arith
