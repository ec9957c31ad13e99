use Rattle.std.proofs.Common.{◌≡◌, ◌-◌, ◌<◌, ◌++◌, All, reverse}
use Rattle.lfs_file.specs.SkipList.{walk}
use Rattle.lfs_file.proofs.skip_list.walk_back.Given as goal

-- what is left of the walk, before the blocks so far, is the whole walk
abbrev pub invariant-loop : goal.invariant-loop
invariant-loop g l = record {
  complete : walk (g.B.Blocks.disk l.blocks) l.head l.count ≡ walk (g.B.Blocks.disk l.blocks) l.block (l.count - l.counter)
      ++ reverse l.chain.items;
  below : All (λ b. b < (g.B.Blocks.disk l.blocks).count) l.chain.items;
}
