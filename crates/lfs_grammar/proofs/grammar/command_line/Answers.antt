-- The program_commands are those of the table.
use Rattle.std.proofs.Common.{◌≡◌, ◌∙◌, Bor, ap, codes, fold, true}
use Rattle.std.specs.Prelude.{Result, Ok, Err, IfOk, Some}
use Rattle.clap.specs.Simple.{app_of_fields, on_top}
use Rattle.clap.specs.Words.{App, Text, app_of, new_app, with_subcommand}
use Rattle.clap.specs.declared.builder.command.Command.{Command}
use Rattle.clap.specs.declared.builder.command.Command.TheViews.{out-Command as fields_of}
use Rattle.lfs_grammar.specs.Grammar.{program_commands, grammar, program}
use Rattle.lfs_grammar.proofs.grammar.command_line.Goals as goal

-- what the calls on the program leave of its grammar
named : (r s : Command) → fields_of r ≡ record (fields_of s) { bin_name = (fields_of r).bin_name } → app_of r ≡ app_of s
named r s is = ap app_of_fields is

versioned : (r s : Command) (text : Bor Text) → fields_of r ≡ record (fields_of s) { version = Some text }
    → app_of r ≡ on_top (λ top. record top { has_version = true }) (app_of s)
versioned r s text is = ap app_of_fields is

told : (r s : Command) (text : Bor Text) → fields_of r ≡ record (fields_of s) { about = Some text } → app_of r ≡ app_of s
told r s text is = ap app_of_fields is

ended : (r s : Command) (text : Bor Text) → fields_of r ≡ record (fields_of s) { after_help = Some text } → app_of r ≡ app_of s
ended r s text is = ap app_of_fields is

asked : (r s : Command) → fields_of r ≡ record (fields_of s) { subcommand_required = true }
    → app_of r ≡ on_top (λ top. record top { subcommand_required = true }) (app_of s)
asked r s is = ap app_of_fields is

made_of : {E : Type 0} (r : Result Command E) (start : App) → IfOk r (λ made. app_of made ≡ fold with_subcommand start program_commands)
    → start ≡ program → IfOk r (λ made. app_of made ≡ grammar)
made_of (Ok made) start is begins = is ∙ ap (λ (a : App). fold with_subcommand a program_commands) begins
made_of (Err e) start is begins = tt

pub returns : goal.returns
returns c =
    let of_name = named c.in_ok-bin_name.field-0 c.new.result c.in_ok-bin_name.ensures.0 in
    let of_version = versioned c.version.result c.in_ok-bin_name.field-0 _ c.version.ensures in
    let of_about = told c.about.result c.version.result _ c.about.ensures in
    let of_end = ended c.after_help.result c.about.result _ c.after_help.ensures in
    let of_command = asked c.subcommand_required-program.result c.after_help.result c.subcommand_required-program.ensures in
    let start : app_of c.in_ok-bin_name.field-0 ≡ new_app (codes "lfsed") = of_name ∙ c.new.ensures.app in
    let first : app_of c.subcommand_required-program.result ≡ program =
    of_command
    ∙ ap (on_top (λ top. record top { subcommand_required = true })) (of_end ∙ of_about ∙ of_version
    ∙ ap (on_top (λ top. record top { has_version = true })) start) in
    record { grammar = made_of c.with_commands.result (app_of c.subcommand_required-program.result) c.with_commands.ensures first }
