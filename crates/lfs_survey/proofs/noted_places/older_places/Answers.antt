-- What is kept passes the test.
use Rattle.std.proofs.Common.{rules, ap, ◌∙◌}
use Rattle.std.proofs.lemmas.Fn.{filter_same}
use Rattle.std.specs.List.{filter}
use Rattle.lfs_survey.specs.Damaged.{is_older_at}
use Rattle.lfs_survey.proofs.noted_places.older_places.Goals as goal

pub returns : goal.returns
returns c =
    filter_same _ (is_older_at c.args.by_device c.args.own.now.disk c.args.survey.now.areas.items) _ (λ x b f' r. search rules) _ _ c.retain.ensures.filtered
    ∙ ap (filter (is_older_at c.args.by_device c.args.own.now.disk c.args.survey.now.areas.items)) c.in_ok-places.ensures
