-- What is asked of an image, with all bytes in hand that it takes (own).
use Rattle.std.specs.Prelude.{ℕ}
use Rattle.std.specs.Global.{Vec}
use Rattle.lfs_request.specs.declared.query.Query.{Query}

-- a query, with the bytes of the other image in hand
abbrev pub Question : Type 0
Question = Query (Vec ℕ)
