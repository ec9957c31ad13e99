use Rattle.std.proofs.Common.{arith, refl}
use Rattle.lfs_grammar.specs.Grammar.{IsNumber, attr_max, file_max, name_max}
use Rattle.lfs_arguments.proofs.counting.limits_of.Goals as goal

pub returns-clause-within : goal.returns-clause-within
returns-clause-within c = λ name file attribute.
    let of_name : IsNumber name_max = (1, 1022, refl, omega arith) in
    let of_file : IsNumber file_max = (1, 2147483647, refl, omega arith) in
    let of_attribute : IsNumber attr_max = (1, 1022, refl, omega arith) in
    record {
      name = c.in_ok-number.ensures.within name_max refl of_name name;
      file = c.in_ok-number-2.ensures.within file_max refl of_file file;
      attribute = c.in_ok-number-3.ensures.within attr_max refl of_attribute attribute;
    }
