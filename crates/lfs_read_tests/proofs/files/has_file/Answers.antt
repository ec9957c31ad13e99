use Rattle.std.proofs.Common.{length, arith, ap}
use Rattle.lfs_file.proofs.WalkLemmas.{chain-fits}
use Rattle.lfs_read_tests.proofs.files.has_file.Goals as goal

pub join-requires-clause-few : goal.join-requires-clause-few
join-requires-clause-few c =
    omega (arith, ap length c.deref.ensures.value, chain-fits _ _ _ _ c.in-Ok.ensures.found)
