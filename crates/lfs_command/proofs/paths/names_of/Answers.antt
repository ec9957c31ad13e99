-- The pieces behind the first slash are the path, or there is none.
use Rattle.std.proofs.Common.{◌≡◌, ◌≢◌, ◌∷◌, [], length, true, false, List, ℕ, Bor, map, inr, refl, ap, sym, ◌∙◌, subst}
use Rattle.std.specs.List.{list_all}
use Rattle.std.proofs.lemmas.Bool.{eqb-false}
use Rattle.lfs_meta.specs.Name.{Name, is_name}
use Rattle.lfs_fs.specs.Path.{IsPathText, IsNoPath}
use Rattle.lfs_command.proofs.PathTexts.{IsSplit, slash_before, path_of_pieces, no_path_of_pieces}
use Rattle.lfs_command.proofs.paths.names_of.Goals as goal

pub returns-then-are_names-clause-spelled : goal.returns-then-are_names-clause-spelled
returns-then-are_names-clause-spelled c =
    let text : List ℕ = c.args.text.now in
    let rest : List ℕ = c.in-Some.rest.now in
    let pieces : List (Bor Name) = c.in_ok-pieces.pieces.items in
    let begins : text ≡ 47 ∷ rest = slash_before text rest c.in-Some.ensures.cases.0 c.in-Some.ensures.cases.1 in
    let split : IsSplit rest (map (λ p. p.now) pieces) = record {
      joined = c.in_ok-pieces.ensures.joined;
      apart = c.in_ok-pieces.ensures.apart;
    } in
    let names : list_all (λ p. is_name p.now) pieces ≡ true =
    sym (c.are_names.ensures ∙ ap (list_all (λ p. is_name p.now)) c.deref.ensures.value) ∙ c.if-are_names.true in
    subst (λ xs. IsPathText xs (map (λ p. p.now) pieces)) (sym begins) (path_of_pieces c.names_are_decided.ensures rest pieces split names)

pub returns-clause-refused : goal.returns-clause-refused
returns-clause-refused c =
    let text : List ℕ = c.args.text.now in
    let rest : List ℕ = c.in-Some.rest.now in
    let pieces : List (Bor Name) = c.in_ok-pieces.pieces.items in
    let begins : text ≡ 47 ∷ rest = slash_before text rest c.in-Some.ensures.cases.0 c.in-Some.ensures.cases.1 in
    let split : IsSplit rest (map (λ p. p.now) pieces) = record {
      joined = c.in_ok-pieces.ensures.joined;
      apart = c.in_ok-pieces.ensures.apart;
    } in
    let others : list_all (λ p. is_name p.now) pieces ≡ false =
    sym (c.are_names.ensures ∙ ap (list_all (λ p. is_name p.now)) c.deref.ensures.value) ∙ c.if-are_names.false in
    let some' : rest ≢ [] = λ none. eqb-false (length rest) 0 (sym c.is_empty.ensures ∙ c.if-is_empty.false) (ap length none) in
    inr (refl, subst IsNoPath (sym begins) (no_path_of_pieces c.names_are_decided.ensures rest pieces some' split others))
