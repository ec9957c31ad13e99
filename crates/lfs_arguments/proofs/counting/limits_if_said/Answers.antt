use Rattle.std.proofs.Common.{arith, refl}
use Rattle.clap.specs.Words.{found_of, rows_of}
use Rattle.lfs_grammar.specs.Grammar.{IsNumber, attr_max_or_source, file_max_or_source, name_max_or_source}
use Rattle.lfs_grammar.proofs.CommandLemmas.{attr_max_or_source_is, file_max_or_source_is, name_max_or_source_is}
use Rattle.lfs_arguments.proofs.OptionLemmas.{number_as_said, number_ranges}
use Rattle.lfs_arguments.proofs.counting.limits_if_said.Goals as goal

pub returns-clause-limits : goal.returns-clause-limits
returns-clause-limits c =
    let rows = rows_of (found_of c.args.options.now) in
    let name = c.number_if_said in
    let file = c.number_if_said-2 in
    let attribute = c.number_if_said-3 in (
      number_as_said name.result name_max_or_source rows name.ensures.some
          (λ none said. name.ensures.none none name_max_or_source refl name_max_or_source_is said),
      number_as_said file.result file_max_or_source rows file.ensures.some
          (λ none said. file.ensures.none none file_max_or_source refl file_max_or_source_is said),
      number_as_said attribute.result attr_max_or_source rows attribute.ensures.some
          (λ none said. attribute.ensures.none none attr_max_or_source refl attr_max_or_source_is said),
    )

pub returns-clause-within : goal.returns-clause-within
returns-clause-within c = λ name file attribute.
    let rows = rows_of (found_of c.args.options.now) in
    let of_name : IsNumber name_max_or_source = (1, 1022, refl, omega arith) in
    let of_file : IsNumber file_max_or_source = (1, 2147483647, refl, omega arith) in
    let of_attribute : IsNumber attr_max_or_source = (1, 1022, refl, omega arith) in
    record {
      name = number_ranges c.number_if_said.result name_max_or_source rows of_name
          c.number_if_said.ensures.some c.number_if_said.ensures.within name;
      file = number_ranges c.number_if_said-2.result file_max_or_source rows of_file
          c.number_if_said-2.ensures.some c.number_if_said-2.ensures.within file;
      attribute = number_ranges c.number_if_said-3.result attr_max_or_source rows of_attribute
          c.number_if_said-3.ensures.some c.number_if_said-3.ensures.within attribute;
    }
