-- What the iterator yields are the pieces.
use Rattle.std.proofs.Common.{◌≡◌, ◌∷◌, [], List, ℕ, All, flat_map, map, ap, sym, ◌∙◌, subst}
use Rattle.std.proofs.lemmas.Iterator.Consumers.{map_from_collect, YieldsList-from_first}
use Rattle.std.proofs.lemmas.Result.{IfOk-weaker}
use Rattle.bstr.specs.Find.{matches}
use Rattle.bstr.specs.Text.{split_at}
use Rattle.lfs_meta.specs.Name.{Name}
use Rattle.lfs_command.proofs.PathTexts.{HasNoSlash, split_all}
use Rattle.lfs_command.proofs.paths.pieces_of.Goals as goal

pub returns-clause-joined : goal.returns-clause-joined
returns-clause-joined c =
    let text : List ℕ = c.args.text.now in
    let pieces : List Name = split_at text 1 0 (matches text (47 ∷ []) 0) in
    let ran = map_from_collect c.collect.result c.collect.ensures.ran (YieldsList-from_first (λ x. x.now)
    (λ rest. rest) pieces c.split_str.ensures.value) in
    IfOk-weaker c.collect.result (λ v. map (λ p. p.now) v.items ≡ pieces)
    (λ v. 47 ∷ text ≡ flat_map (λ p. 47 ∷ p) (map (λ p. p.now) v.items))
    (λ v is. (split_all text).joined ∙ ap (flat_map (λ p. 47 ∷ p)) (sym is)) ran

pub returns-clause-apart : goal.returns-clause-apart
returns-clause-apart c =
    let text : List ℕ = c.args.text.now in
    let pieces : List Name = split_at text 1 0 (matches text (47 ∷ []) 0) in
    let ran = map_from_collect c.collect.result c.collect.ensures.ran (YieldsList-from_first (λ x. x.now)
    (λ rest. rest) pieces c.split_str.ensures.value) in
    IfOk-weaker c.collect.result (λ v. map (λ p. p.now) v.items ≡ pieces) (λ v. All HasNoSlash (map (λ p. p.now) v.items))
    (λ v is. subst (All HasNoSlash) (sym is) (split_all text).apart) ran
