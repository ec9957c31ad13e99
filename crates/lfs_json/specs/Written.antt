-- What is written of a line (own).
use Rattle.std.specs.Prelude.{◌≡◌, List, ◌∷◌, ◌++◌, flat_map}
use Rattle.json.specs.Token.{Token}
use Rattle.json.specs.Tree.{json_tokens}
use Rattle.json.specs.Written.{Written}
use Rattle.lfs_json.specs.Object.{Member}

-- the tokens of a member
abbrev pub member_tokens : Member → List Token
member_tokens m = Token.key m.0 ∷ json_tokens m.1

-- those of members
abbrev pub members_tokens : List Member → List Token
members_tokens ms = flat_map member_tokens ms

-- those of an object that isn't ended
abbrev pub begun : List Member → List Token
begun ms = Token.begin_object ∷ members_tokens ms

-- these tokens are added, and what stood before stays
pub record Adds (old new : Written) (ts : List Token) : Type 0 where
  pub before : new.before ≡ old.before
  pub tokens : new.tokens ≡ old.tokens ++ ts
