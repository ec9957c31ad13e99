-- The file that is added stands last, and each other one where it stood.
use Rattle.std.proofs.Common.{◌≡◌, ◌∙◌, ℕ, List, [], ◌∷◌, ap, arith, length}
use Rattle.std.proofs.lemmas.List.{length-append}
use Rattle.std.proofs.lemmas.Map.Text.{btree_map_updates_str}
use Rattle.std.specs.BTreeMap.{get_by}
use Rattle.std.specs.Cmp.Lexicographic.{slice_cmp}
use Rattle.std.specs.Global.{Vec}
use Rattle.std.specs.Ordering.{nat_cmp}
use Rattle.lfs_open.specs.LineContents.{content_at}
use Rattle.lfs_open.proofs.ContentsLemmas.{each_added, stands_still}
use Rattle.lfs_open.proofs.line_contents.FilesRead.add.Goals as goal

pub returns-clause-known : goal.returns-clause-known
returns-clause-known c = λ files reads known.
    let old : List (Vec ℕ) = c.args.self.now.read.items in
    let is = c.in_ok-push.ensures.items in
    let place : c.len-place.result ≡ length old = omega arith in
    record {
      some = omega (arith, ap (λ (read : List (Vec ℕ)). length read) is, length-append old (c.args.contents ∷ []));
      none = ap (λ (read : List (Vec ℕ)). content_at read 0) is ∙ stands_still old (c.args.contents ∷ []) 0 known.some ∙ known.none;
      each = each_added files old c.push.new.self.items c.args.file.now c.args.contents c.len-place.result
          (λ q. get_by (λ n. slice_cmp nat_cmp q n.now) c.args.self.now.places) (λ q. get_by (λ n. slice_cmp nat_cmp q n.now) c.insert.new.self) is place
          (btree_map_updates_str c.args.file.now c.args.self.now.places c.insert.new.self _ c.in_ok-insert.ensures.updates) reads known.each;
    }
