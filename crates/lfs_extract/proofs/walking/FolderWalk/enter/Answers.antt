use Rattle.std.proofs.Common.{◌++◌, List, ℕ, ap, sym, ◌∙◌, map, reverse, string_bytes}
use Rattle.std.proofs.lemmas.Result.{err_from_is_err_and}
use Rattle.std.proofs.lemmas.Simd.{map-map}
use Rattle.lfs_extract.specs.PathBelow.{name_in}
use Rattle.lfs_extract.proofs.WalkLemmas.{lists_sorted, order_blamed, order_refused}
use Rattle.lfs_extract.proofs.walking.FolderWalk.enter.Goals as goal

pub returns-in_err-names-clause-refused : goal.returns-in_err-names-clause-refused
returns-in_err-names-clause-refused g c =
    let p = err_from_is_err_and c.from_residual-in_err-names.result c.from_residual-in_err-names.ensures.1 in
    rw (p.1, p.2) (order_refused (g.H.Known.known c.args.host.now).tree c.args.folder.now
    (map (λ n. string_bytes n) c.in_ok-listed.listed.items) c.in_err-names.field-0.0 c.in_ok-listed.ensures.listed c.in_err-names.ensures.refused)

pub returns-clause-entered : goal.returns-clause-entered
returns-clause-entered g c =
    let names = map (λ n. string_bytes n) c.in_ok-names.names.items in
    let ordered = c.in_ok-names.ensures.ordered in
    let folder = c.args.folder.now in
    record {
      names = names;
      listed = lists_sorted (g.H.Known.known c.args.host.now).tree folder (map (λ n. string_bytes n) c.in_ok-listed.listed.items)
          names c.in_ok-listed.ensures.listed ordered.same;
      rise = ordered.rise;
      fit = ordered.fit;
      shows = rw c.wait.ensures.rows c.in_ok-show.ensures.shown;
      waits = c.in_ok-wait.ensures.waits
          ∙ ap (λ (xs : List (List ℕ)). xs ++ map (λ s. string_bytes s) (reverse c.show.new.self.waiting.items))
          (sym (map-map (name_in folder) (λ n. string_bytes n) c.in_ok-names.names.items))
          ∙ ap (λ w. map (name_in folder) names ++ map (λ s. string_bytes s) (reverse w.items)) c.show.ensures.waiting;
    }

pub returns-in_err-names-clause-blamed : goal.returns-in_err-names-clause-blamed
returns-in_err-names-clause-blamed g c =
    let p = err_from_is_err_and c.from_residual-in_err-names.result c.from_residual-in_err-names.ensures.1 in
    rw (p.1, p.2) (order_blamed (g.H.Known.known c.args.host.now).tree c.args.folder.now (map (λ n. string_bytes n) c.in_ok-listed.listed.items)
    (g.H.Known.known c.list.new.self) c.in_err-names.field-0.0 c.in_ok-listed.ensures.listed c.in_err-names.ensures.refused)
