use Rattle.std.proofs.Common.{◌∙◌, List, Option, ap, arith, length, ℕ}
use Rattle.lfs_listing.proofs.FlatLemmas.{written}
use Rattle.lfs_listing.proofs.gathering.users_with_parts.Goals as goal

pub returns-clause-users : goal.returns-clause-users
returns-clause-users c =
    let users = c.in_ok-users.users in
    written users.items c.gather_parts.new.users users.len users.ok.0
    (omega (arith, c.gather_parts.auto.users, ap (λ (us : List (Option ℕ)). length us) c.deref_mut.ensures.value)) ∙ c.in_ok-parts.ensures.users

pub returns-clause-parts : goal.returns-clause-parts
returns-clause-parts c = c.in_ok-parts.ensures.parts
