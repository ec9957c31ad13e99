-- Parents that lack, prefix by prefix.
use Rattle.std.proofs.Common.{◌≡◌, ℕ, ◌+◌, ◌-◌, ◌<◌, ◌≤◌, Bool, true, false, not, List, [], ◌∷◌, ◌++◌, Bor, Option, length, drop, take}
use Rattle.std.proofs.Common.{get_or, refl, ap, sym, subst, ◌∙◌, arith, add-one, drop-cons, append-nil}
use Rattle.std.specs.Prelude.{if◌then◌else◌, is_some}
use Rattle.std.proofs.lemmas.List.{length-drop, length-map, map-append, take_more}
use Rattle.lfs_meta.specs.Name.{Name}
use Rattle.lfs_fs.specs.Path.{Path, path_text}
use Rattle.lfs_fs.specs.Tree.{Node}
use Rattle.lfs_command.specs.Command.{Command, Mkdir, on_paths}
use Rattle.lfs_sync.specs.Merging.{PlansBehind, if_so}
use Rattle.lfs_sync.specs.Planned.{in_texts, plan_asked}
use Rattle.lfs_listing.specs.Below.{names}
use Rattle.lfs_sync.specs.Synced.{lacking}
use Rattle.lfs_sync.specs.declared.planned.Planned.{Planned}
use Rattle.lfs_sync.specs.declared.sync_row.SyncRow.{SyncRow}
use Rattle.lfs_sync.proofs.MergeLemmas.{further}

-- ---- one prefix more

lacking_by : (b : Bool) (c : Command) (cs : List Command) → (if b then cs else c ∷ cs) ≡ if_so (not b) c ++ cs
lacking_by true c cs = refl
lacking_by false c cs = refl

lacking_first : (tree : Path → Option Node) (prefix : Path) (n m : Name) (ns : Path) → lacking tree prefix (n ∷ m ∷ ns)
    ≡ if_so (not (is_some (tree (prefix ++ n ∷ [])))) (Mkdir (prefix ++ n ∷ [])) ++ lacking tree (prefix ++ n ∷ []) (m ∷ ns)
lacking_first tree prefix n m ns =
    lacking_by (is_some (tree (prefix ++ n ∷ []))) (Mkdir (prefix ++ n ∷ [])) (lacking tree (prefix ++ n ∷ []) (m ∷ ns))

rest_at : (ns : Path) (i : ℕ) → i < length ns → drop i ns ≡ get_or ns i [] ∷ drop (i + 1) ns
rest_at ns i within = drop-cons ns i [] within ∙ ap (λ (k : ℕ). get_or ns i [] ∷ drop k ns) (sym (add-one i))

lacking_here : (tree : Path → Option Node) (ns : Path) (i : ℕ) → i + 1 < length ns → lacking tree (take i ns) (drop i ns)
    ≡ if_so (not (is_some (tree (take (i + 1) ns)))) (Mkdir (take (i + 1) ns)) ++ lacking tree (take (i + 1) ns) (drop (i + 1) ns)
lacking_here tree ns i within =
    let n : Name = get_or ns i [] in
    let m : Name = get_or ns (i + 1) [] in
    let rest : Path = drop (i + 1 + 1) ns in
    let longer : take (i + 1) ns ≡ take i ns ++ n ∷ [] = take_more ns i [] (omega arith) in
    let second : drop (i + 1) ns ≡ m ∷ rest = rest_at ns (i + 1) within in
    ap (lacking tree (take i ns)) (rest_at ns i (omega arith) ∙ ap (λ (l : Path). n ∷ l) second)
    ∙ lacking_first tree (take i ns) n m rest
    ∙ ap (λ (p : Path). if_so (not (is_some (tree p))) (Mkdir p) ++ lacking tree p (m ∷ rest)) (sym longer)
    ∙ ap (λ (l : Path). if_so (not (is_some (tree (take (i + 1) ns)))) (Mkdir (take (i + 1) ns)) ++ lacking tree (take (i + 1) ns) l) (sym second)

-- what is planned so far, and what lacks behind the prefix that has one name less
abbrev pub IsAt : (Path → Option Node) → Path → List SyncRow → List Planned → ℕ → Type 0
IsAt tree ns rows plan k =
    plan_asked rows plan ++ in_texts (lacking tree (take (k - 1) ns) (drop (k - 1) ns)) ≡ in_texts (lacking tree [] ns)

pub parent_further : (tree : Path → Option Node) (ns : Path) (rows : List SyncRow) (old new : List Planned) (k : ℕ) → 1 ≤ k → k < length ns
    → IsAt tree ns rows old k → PlansBehind rows old new (if_so (not (is_some (tree (take k ns)))) (Mkdir (take k ns))) → IsAt tree ns rows new (k + 1)
parent_further tree ns rows old new k some' within way adds =
    let less : k - 1 + 1 ≡ k = omega arith in
    let same : k + 1 - 1 ≡ k = omega arith in
    let cut : in_texts (lacking tree (take (k - 1) ns) (drop (k - 1) ns))
    ≡ in_texts (if_so (not (is_some (tree (take k ns)))) (Mkdir (take k ns))) ++ in_texts (lacking tree (take k ns) (drop k ns)) =
    ap in_texts (lacking_here tree ns (k - 1) (omega arith)
    ∙ ap (λ (i : ℕ). if_so (not (is_some (tree (take i ns)))) (Mkdir (take i ns)) ++ lacking tree (take i ns) (drop i ns)) less)
    ∙ map-append (on_paths path_text) (if_so (not (is_some (tree (take k ns)))) (Mkdir (take k ns))) (lacking tree (take k ns) (drop k ns)) in
    subst (λ (i : ℕ). plan_asked rows new ++ in_texts (lacking tree (take i ns) (drop i ns)) ≡ in_texts (lacking tree [] ns)) (sym same)
    (further rows old new (if_so (not (is_some (tree (take k ns)))) (Mkdir (take k ns)))
    (in_texts (lacking tree (take (k - 1) ns) (drop (k - 1) ns))) (in_texts (lacking tree (take k ns) (drop k ns)))
    (in_texts (lacking tree [] ns)) way adds cut)

-- ---- the end

none_lacks : (tree : Path → Option Node) (prefix ns : Path) → length ns ≤ 1 → lacking tree prefix ns ≡ []
none_lacks tree prefix [] short = refl
none_lacks tree prefix (n ∷ []) short = refl
none_lacks tree prefix (n ∷ m ∷ ns) short = absurd (omega arith)

pub parents_end : (tree : Path → Option Node) (ns : Path) (rows : List SyncRow) (plan : List Planned) (k : ℕ) → 1 ≤ k → length ns ≤ k
    → IsAt tree ns rows plan k → plan_asked rows plan ≡ in_texts (lacking tree [] ns)
parents_end tree ns rows plan k some' over way =
    sym (append-nil (plan_asked rows plan))
    ∙ ap (λ (l : List Command). plan_asked rows plan ++ in_texts l)
    (sym (none_lacks tree (take (k - 1) ns) (drop (k - 1) ns) (omega (arith, length-drop (k - 1) ns))))
    ∙ way

-- the length of names
pub names_long : (ns : List (Bor Name)) → length (names ns) ≡ length ns
names_long ns = length-map ns (λ (n : Bor Name). n.now)
