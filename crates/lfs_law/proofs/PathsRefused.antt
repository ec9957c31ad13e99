-- Why nothing is answered of a path of an image: what the checks of a command say of it.
use Rattle.std.proofs.Common.{◌≡◌, List, [], ◌∷◌, ◌++◌, nat_lt, Bool, false, arith, Option, Some, None, refl, ap, sym, ◌∙◌, subst, append_assoc, ℕ}
use Rattle.std.specs.Prelude.{is_none}
use Rattle.std.specs.List.{AllByRecursion}
use Rattle.std.specs.Option.{option_map}
use Rattle.std.proofs.lemmas.Bool.Decides.{nat_tests}
use Rattle.std.proofs.lemmas.Option.{none-some}
use Rattle.lfs_block.specs.Disk.{Disk}
use Rattle.lfs_meta.specs.Attribute.{Attributes}
use Rattle.lfs_meta.specs.Body.{Pair}
use Rattle.lfs_fs.specs.Entry.{Entry, Body, Inline, Chain, Directory_at, body_target, target}
use Rattle.lfs_fs.specs.Graph.{entry_within, walk}
use Rattle.lfs_fs.specs.Mounted.{MountedValue, IsMountOf}
use Rattle.lfs_fs.specs.Outlined.{outlined}
use Rattle.lfs_fs.specs.Path.{Path}
use Rattle.lfs_fs.specs.Tree.{Node, Dir, entry_in, entry_at, node, node_of, top, tree}
use Rattle.lfs_fs.specs.Volume.{Volume}
use Rattle.lfs_fs.proofs.EntryAtLemmas.{some_entry, walk-append, step_some}
use Rattle.lfs_command.specs.declared.refusal.Refusal.{Refusal}
use Rattle.lfs_command.specs.declared.refusal.Refusal.TheVariants.{NotFound, NotADirectory, BadPath, AttrTooLarge, NoAttr, EntryTooLarge}
use Rattle.lfs_command.specs.declared.refusal.Refusal.TheVariants.{Memory, Exists, IsADirectory, NotEmpty, NameTooLong, FileTooLarge}
use Rattle.lfs_command.specs.declared.refusal.Refusal.TheVariants.{IntoItself, IsRoot, NoSpace, BadCount}
use Rattle.lfs_command.specs.Command.{SetAttr}
use Rattle.lfs_command.specs.PathRefused.{Checks, FailsCheck, RefusesPath}
use Rattle.lfs_command.specs.Verdict.{checks, first_refusal, refuse_if, walk_refusal_at, walk_refusal}
use Rattle.lfs_law.specs.JudgedAlike.{OutlinesAreJudgedAlike}
use Rattle.lfs_law.specs.ParentChecks.{entry_checks, there_checks}
use Rattle.lfs_law.proofs.VerdictKinds.{IsOfVerdict, MayBeOfVerdict, of_first}
use Rattle.lfs_law.proofs.Walks.{walk-none}

-- ---- the walk of a path where something is

-- what leads to a directory is one
shows_directory : (b : Body) (a : Attributes) (k : Pair) → body_target b ≡ Some k → node_of b a ≡ Dir a
shows_directory (Inline bytes) a k leads = absurd (none-some k leads)
shows_directory (Chain blocks bytes) a k leads = absurd (none-some k leads)
shows_directory (Directory_at pair) a k leads = refl

-- what a walk goes on from
walked_on : (v : Volume) (o : Option Entry) (ns : Path) (e : Entry) → walk target (entry_in v.directories) o ns ≡ Some e
    → (f : Entry) × (o ≡ Some f)
walked_on v None ns e there = absurd (none-some e (sym (walk-none target (entry_in v.directories) ns) ∙ there))
walked_on v (Some f) ns e there = (f, refl)

-- each front of a path where something is leads to a directory
pub walk_reached : (v : Volume) (front path : Path) (e : Entry) → entry_at v (front ++ path) ≡ Some e
    → walk_refusal (tree v) front path ≡ None
walk_reached v front [] e there = refl
walk_reached v front (n ∷ ns) e there =
    let later = walked_on v (entry_within target (entry_in v.directories) n (entry_at v front)) ns e
    (sym (walk-append target (entry_in v.directories) (Some (top v)) front (n ∷ ns)) ∙ there) in
    let above = step_some target (entry_in v.directories) n (entry_at v front) later.0 later.1 in
    let f : Entry = above.0 in
    ap (λ (o : Option Node). walk_refusal_at o (walk_refusal (tree v) (front ++ n ∷ []) ns))
    (ap (option_map node) above.2 ∙ ap Some (shows_directory f.body f.attributes above.1 above.3))
    ∙ walk_reached v (front ++ n ∷ []) ns e (ap (entry_at v) (append_assoc front (n ∷ []) ns) ∙ there)

pub reached : (v : Volume) (path : Path) (x : Node) → tree v path ≡ Some x → walk_refusal (tree v) [] path ≡ None
reached v path x there = let e = some_entry (entry_at v path) x there in walk_reached v [] path e.0 e.1

-- ---- why nothing is answered

refused_by : (checks : Checks) (d : Disk) (text : List ℕ) (r : Refusal) → IsOfVerdict r → FailsCheck checks d text r
    → RefusesPath checks d text r
unfolding IsOfVerdict
refused_by checks d text BadPath of refused = absurd of
refused_by checks d text Memory of refused = absurd of
refused_by checks d text NotFound of refused = refused
refused_by checks d text Exists of refused = refused
refused_by checks d text NotADirectory of refused = refused
refused_by checks d text IsADirectory of refused = refused
refused_by checks d text NotEmpty of refused = refused
refused_by checks d text NameTooLong of refused = refused
refused_by checks d text FileTooLarge of refused = refused
refused_by checks d text AttrTooLarge of refused = refused
refused_by checks d text NoAttr of refused = refused
refused_by checks d text IntoItself of refused = refused
refused_by checks d text IsRoot of refused = refused
refused_by checks d text EntryTooLarge of refused = refused
refused_by checks d text (NoSpace needed free) of refused = refused
refused_by checks d text BadCount of refused = refused

-- the first check that refuses
pub first_fails : (checks : Checks) (d : Disk) (text : List ℕ) (r : Refusal)
    → ((t : Path → Option Node) (path : Path) → AllByRecursion MayBeOfVerdict (checks t path))
    → FailsCheck checks d text r → RefusesPath checks d text r
first_fails checks d text r of fails =
    refused_by checks d text r (subst MayBeOfVerdict fails.refused (of_first (checks (tree fails.volume) fails.path)
    (of (tree fails.volume) fails.path))) fails

-- ---- the first checks on an outline

-- a check that never refuses may stand at the end
passes : (a b : Option Refusal) (r : Refusal) → first_refusal (a ∷ b ∷ refuse_if false r ∷ []) ≡ first_refusal (a ∷ b ∷ [])
passes None None r = refl
passes None (Some q) r = refl
passes (Some p) b r = refl

-- so the first checks on what is there are those of a command that sets an attribute to no bytes
of_command : (v : Volume) (p : Path) → first_refusal (checks v (SetAttr p 0 [])) ≡ first_refusal (there_checks v p)
of_command v p =
    ap (λ (t : Bool). first_refusal (walk_refusal (tree v) [] p ∷ refuse_if (is_none (tree v p)) NotFound ∷ refuse_if t AttrTooLarge ∷ []))
    (short v.limits.attribute)
    ∙ passes (walk_refusal (tree v) [] p) (refuse_if (is_none (tree v p)) NotFound) AttrTooLarge
  where
    short : (n : ℕ) → nat_lt n 0 ≡ false
    short n = grind (arith, nat_tests)

there_alike : OutlinesAreJudgedAlike → (v : Volume) (p : Path) → first_refusal (there_checks v p)
    ≡ first_refusal (there_checks (outlined v) p)
there_alike alike v p = sym (of_command v p) ∙ ap first_refusal (sym (alike v (SetAttr p 0 [])).checked) ∙ of_command (outlined v) p

-- a path of a name isn't the root's
entry_is_there : (v : Volume) (p : Path) → (p ≡ [] → ⊥) → first_refusal (entry_checks v p) ≡ first_refusal (there_checks v p)
entry_is_there v [] below = absurd (below refl)
entry_is_there v (n ∷ ns) below = refl

-- the walk to a path of a mounted image, or that nothing is there
pub walked : OutlinesAreJudgedAlike → (d : Disk) (m : MountedValue) (is : IsMountOf d m) (path : Path) → (r : Refusal) → (path ≡ [] → ⊥) → first_refusal (entry_checks m.outline path) ≡ Some r
    → first_refusal (there_checks is.volume path) ≡ Some r
walked alike d m is path r below refused =
    there_alike alike is.volume path ∙ ap (λ (v : Volume). first_refusal (there_checks v path)) (sym is.outline)
    ∙ sym (entry_is_there m.outline path below) ∙ refused
