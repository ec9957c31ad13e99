use Rattle.std.proofs.Common.{codes, refl}
use Rattle.clap.specs.Words.{found_of, rows_of}
use Rattle.lfs_grammar.specs.Grammar.{word}
use Rattle.lfs_grammar.proofs.CommandLemmas.{said_of}
use Rattle.lfs_arguments.proofs.Handed.{handed_on}
use Rattle.lfs_arguments.proofs.NameLemmas.{only_sync}
use Rattle.lfs_arguments.proofs.operations.tree_change_of.Goals as goal

pub returns-in_err-bytes-in-rm-clause-unsaid : goal.returns-in_err-bytes-in-rm-clause-unsaid
returns-in_err-bytes-in-rm-clause-unsaid c =
    let on = c.from_residual in
    handed_on on.result c.in_err-bytes-in-rm.field-0.0 _ on.ensures.1
    (λ names.
    let said = said_of c.args.name.now (codes "rm") (rows_of (found_of c.args.options.now)) c.in-rm.is names in
    absurd (c.in_err-bytes-in-rm.ensures.none.1 (word (codes "path")) refl (said.1.1.0 refl)))

pub returns-in_err-bytes-in-mkdir-clause-unsaid : goal.returns-in_err-bytes-in-mkdir-clause-unsaid
returns-in_err-bytes-in-mkdir-clause-unsaid c =
    let on = c.from_residual-in_err-bytes-in-mkdir in
    handed_on on.result c.in_err-bytes-in-mkdir.field-0.0 _ on.ensures.1
    (λ names.
    let said = said_of c.args.name.now (codes "mkdir") (rows_of (found_of c.args.options.now)) c.in-mkdir.is names in
    absurd (c.in_err-bytes-in-mkdir.ensures.none.1 (word (codes "path")) refl (said.1.1.0 refl)))

pub returns-in_err-bytes-in-put-clause-unsaid : goal.returns-in_err-bytes-in-put-clause-unsaid
returns-in_err-bytes-in-put-clause-unsaid c =
    let on = c.from_residual-in_err-bytes-in-put in
    handed_on on.result c.in_err-bytes-in-put.field-0.0 _ on.ensures.1
    (λ names.
    let said = said_of c.args.name.now (codes "put") (rows_of (found_of c.args.options.now)) c.in-put.is names in
    absurd (c.in_err-bytes-in-put.ensures.none.1 (word (codes "path")) refl (said.1.1.0 refl)))

pub returns-in_err-text-in_default-clause-unsaid : goal.returns-in_err-text-in_default-clause-unsaid
returns-in_err-text-in_default-clause-unsaid c =
    let on = c.from_residual-in_err-text-in_default in
    let h = c.in_default in
    let rows = rows_of (found_of c.args.options.now) in
    let sync = only_sync c.args.name.now rows c.requires h.not-rm h.not-mkdir h.not-put in
    handed_on on.result c.in_err-text-in_default.field-0.0 _ on.ensures.1
    (λ names.
    let said = said_of c.args.name.now (codes "sync") rows sync names in
    absurd (c.in_err-text-in_default.ensures.none.1 (word (codes "dir")) refl (said.1.1.0 refl)))
