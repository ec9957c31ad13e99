-- What a command takes from outside a volume (own).
use Rattle.std.specs.Prelude.{ℕ, ◌+◌, ◌<◌, ◌≤◌, ◌/◌, List, [], ◌∷◌, nat_le, if◌then◌else◌, length}
use Rattle.lfs_meta.specs.Body.{Pair}
use Rattle.lfs_fs.specs.Entry.{Body, Inline, Chain}
use Rattle.lfs_fs.specs.Volume.{Volume}
use Rattle.lfs_fs.specs.Uses.{times, body_uses, uses}
use Rattle.lfs_fs.specs.Limits.{most_held}
use Rattle.lfs_command.specs.Growth.{count_after}
use Rattle.lfs_command.specs.Command.{Command, Mkdir, Put, Rm, Mv, SetAttr, RmAttr, Grow}

-- blocks for its contents, and a pair for its directory
pub record Supplies : Type 0 where
  pub blocks : List ℕ
  pub pair : Pair

-- none, for what doesn't depend on them; the pair isn't the root's
abbrev pub nothing : Supplies
nothing = record { blocks = []; pair = (0, 0) }

-- the most bytes of a file that stand in its entry: an eighth of a block, and never more than 1,022
abbrev pub most_inline : ℕ → ℕ
most_inline size = if nat_le (size / 8) most_held then size / 8 else most_held

-- the same, if a command gives a bound
abbrev pub inline_limit : ℕ → ℕ → ℕ
inline_limit size most = if nat_le (most_inline size) most then most_inline size else most

-- where a file's contents are put
abbrev pub new_body : Volume → Supplies → List ℕ → ℕ → Body
new_body v s bytes most = if nat_le (length bytes) (inline_limit v.size most) then Inline bytes else Chain s.blocks bytes

-- how often the supplies of a command use a block
abbrev pub supply_uses : Volume → Command → Supplies → ℕ → ℕ
supply_uses v (Mkdir p) s b = times b (s.pair.0 ∷ s.pair.1 ∷ [])
supply_uses v (Put p bytes most) s b = body_uses b (new_body v s bytes most)
supply_uses v (Rm p) s b = 0
supply_uses v (Mv p q) s b = 0
supply_uses v (SetAttr p k value) s b = 0
supply_uses v (RmAttr p k) s b = 0
supply_uses v (Grow n) s b = 0

-- the supplies are blocks of the volume, as the command leaves it, that nothing uses, each taken once
pub record AreFree (v : Volume) (c : Command) (s : Supplies) : Type 0 where
  pub once : (b : ℕ) → uses b v + supply_uses v c s b ≤ 1
  pub within : (b : ℕ) → 0 < supply_uses v c s b → b < count_after c v.count
