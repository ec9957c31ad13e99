use Rattle.std.proofs.Common.{codes, refl}
use Rattle.clap.specs.Words.{found_of, rows_of}
use Rattle.lfs_grammar.specs.Grammar.{word}
use Rattle.lfs_grammar.proofs.CommandLemmas.{said_of}
use Rattle.lfs_arguments.proofs.Handed.{handed_on}
use Rattle.lfs_arguments.proofs.operations.tree_command_of.Goals as goal

pub returns-in_err-bytes-in-mkdir-clause-unsaid : goal.returns-in_err-bytes-in-mkdir-clause-unsaid
returns-in_err-bytes-in-mkdir-clause-unsaid c =
    let on = c.from_residual in
    handed_on on.result c.in_err-bytes-in-mkdir.field-0.0 _ on.ensures.1
    (λ names.
    let said = said_of c.args.name.now (codes "mkdir") (rows_of (found_of c.args.options.now)) c.in-mkdir.is names in
    absurd (c.in_err-bytes-in-mkdir.ensures.none.1 (word (codes "path")) refl (said.1.1.0 refl)))

pub returns-in_err-bytes-in-put-clause-unsaid : goal.returns-in_err-bytes-in-put-clause-unsaid
returns-in_err-bytes-in-put-clause-unsaid c =
    let on = c.from_residual-in_err-bytes-in-put in
    handed_on on.result c.in_err-bytes-in-put.field-0.0 _ on.ensures.1
    (λ names.
    let said = said_of c.args.name.now (codes "put") (rows_of (found_of c.args.options.now)) c.in-put.is names in
    absurd (c.in_err-bytes-in-put.ensures.none.1 (word (codes "path")) refl (said.1.1.0 refl)))

pub returns-in_err-bytes-in-rm-clause-unsaid : goal.returns-in_err-bytes-in-rm-clause-unsaid
returns-in_err-bytes-in-rm-clause-unsaid c =
    let on = c.from_residual-in_err-bytes-in-rm in
    handed_on on.result c.in_err-bytes-in-rm.field-0.0 _ on.ensures.1
    (λ names.
    let said = said_of c.args.name.now (codes "rm") (rows_of (found_of c.args.options.now)) c.in-rm.is names in
    absurd (c.in_err-bytes-in-rm.ensures.none.1 (word (codes "path")) refl (said.1.1.0 refl)))

pub returns-in_err-bytes-in-mv-clause-unsaid : goal.returns-in_err-bytes-in-mv-clause-unsaid
returns-in_err-bytes-in-mv-clause-unsaid c =
    let on = c.from_residual-in_err-bytes-in-mv in
    handed_on on.result c.in_err-bytes-in-mv.field-0.0 _ on.ensures.1
    (λ names.
    let said = said_of c.args.name.now (codes "mv") (rows_of (found_of c.args.options.now)) c.in-mv.is names in
    absurd (c.in_err-bytes-in-mv.ensures.none.1 (word (codes "from")) refl (said.1.1.0 refl)))

pub returns-in_err-bytes-in-mv-2-clause-unsaid : goal.returns-in_err-bytes-in-mv-2-clause-unsaid
returns-in_err-bytes-in-mv-2-clause-unsaid c =
    let on = c.from_residual-in_err-bytes-in-mv-2 in
    handed_on on.result c.in_err-bytes-in-mv-2.field-0.0 _ on.ensures.1
    (λ names.
    let said = said_of c.args.name.now (codes "mv") (rows_of (found_of c.args.options.now)) c.in-mv.is names in
    absurd (c.in_err-bytes-in-mv-2.ensures.none.1 (word (codes "to")) refl (said.1.1.1.0 refl)))
