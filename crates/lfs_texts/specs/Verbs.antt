-- The first words of lines (own).
use Rattle.std.specs.Prelude.{ℕ, if◌then◌else◌, Option, Some, None, List, codes}
use Rattle.std.specs.Str.{bytes_eq}
use Rattle.lfs_texts.specs.declared.verb.Verb.{Verb}
use Rattle.lfs_texts.specs.declared.verb.Verb.TheVariants.{Mkdir, Put, Rm, Mv, SetAttr, RmAttr, Grow, Undo, Redo, Forget}

-- the verb that a word is
abbrev pub verb_of : List ℕ → Option Verb
verb_of word =
    if bytes_eq word (codes "mkdir") then Some Mkdir
    else if bytes_eq word (codes "put") then Some Put
    else if bytes_eq word (codes "rm") then Some Rm
    else if bytes_eq word (codes "mv") then Some Mv
    else if bytes_eq word (codes "setattr") then Some SetAttr
    else if bytes_eq word (codes "rmattr") then Some RmAttr
    else if bytes_eq word (codes "grow") then Some Grow
    else if bytes_eq word (codes "undo") then Some Undo
    else if bytes_eq word (codes "redo") then Some Redo
    else if bytes_eq word (codes "forget") then Some Forget
    else None

-- how many words stand behind a verb at least
abbrev pub least_of : Verb → ℕ
least_of Undo = 0
least_of Redo = 0
least_of Forget = 0
least_of Mkdir = 1
least_of Rm = 1
least_of Grow = 1
least_of Put = 2
least_of Mv = 2
least_of SetAttr = 2
least_of RmAttr = 2

-- and at most: the value of an attribute may be left out
abbrev pub most_of : Verb → ℕ
most_of SetAttr = 3
most_of verb = least_of verb
