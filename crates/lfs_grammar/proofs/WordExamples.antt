-- What the grammar makes of some command lines.
use Rattle.std.proofs.Common.{◌≡◌, ◌∷◌, List, [], Option, Some, None, codes, refl}
use Rattle.std.specs.Prelude.{option_map}
use Rattle.clap.specs.Words.{Text, fault_of, first_of, one_of, subcommand_of}
use Rattle.clap.specs.declared.error.kind.ErrorKind.TheVariants.{DisplayHelp, MissingRequiredArgument, MissingSubcommand, UnknownArgument}
use Rattle.clap.specs.declared.error.kind.ErrorKind.TheVariants.{ValueValidation}
use Rattle.clap.proofs.OnLiterals.{clap_on_literals}
use Rattle.lfs_grammar.specs.Grammar.{IsTaken, grammar}
use Rattle.lfs_grammar.specs.Hyphens.{dashed}

abbrev text_at : Text → List Text → Option (Option Text)
text_at id words = option_map (λ named. first_of id named.1) (subcommand_of grammar words)

abbrev number_at : Text → List Text → Option (Option Text)
number_at id words = option_map (λ named. one_of id named.1) (subcommand_of grammar words)

-- lfsed mv a.img /x /y
abbrev moving : List Text
moving = codes "lfsed" ∷ codes "mv" ∷ codes "a.img" ∷ codes "/x" ∷ codes "/y" ∷ []

moving_is_taken : IsTaken moving
unfolding clap_on_literals
moving_is_taken = refl

moving_says : (text_at (codes "image") moving ≡ Some (Some (codes "a.img")))
    × (text_at (codes "from") moving ≡ Some (Some (codes "/x")))
    × (text_at (codes "to") moving ≡ Some (Some (codes "/y")))
    × (number_at (codes "block") moving ≡ Some (Some (codes "4096")))
unfolding clap_on_literals
moving_says = (refl, refl, refl, refl)

-- lfsed format -b 512 a.img --count=8
abbrev formatting : List Text
formatting = codes "lfsed" ∷ codes "format" ∷ codes "-b" ∷ codes "512" ∷ codes "a.img" ∷ codes "--count=8" ∷ []

formatting_is_taken : IsTaken formatting
unfolding clap_on_literals
formatting_is_taken = refl

formatting_says : (number_at (codes "block") formatting ≡ Some (Some (codes "512")))
    × (number_at (codes "count") formatting ≡ Some (Some (codes "8")))
unfolding clap_on_literals
formatting_says = (refl, refl)

-- lfsed grow a.img 16
abbrev growing : List Text
growing = codes "lfsed" ∷ codes "grow" ∷ codes "a.img" ∷ codes "16" ∷ []

growing_is_taken : IsTaken growing
unfolding clap_on_literals
growing_is_taken = refl

growing_says : (text_at (codes "image") growing ≡ Some (Some (codes "a.img")))
    × (number_at (codes "count") growing ≡ Some (Some (codes "16")))
unfolding clap_on_literals
growing_says = (refl, refl)

-- lfsed rm --keep 20 a.img /x, and without it
abbrev keeping : List Text
keeping = codes "lfsed" ∷ codes "rm" ∷ codes "--keep" ∷ codes "20" ∷ codes "a.img" ∷ codes "/x" ∷ []

keeping_is_taken : IsTaken keeping
unfolding clap_on_literals
keeping_is_taken = refl

keeping_says : (number_at (codes "keep") keeping ≡ Some (Some (codes "20"))) × (number_at (codes "keep") moving ≡ Some None)
unfolding clap_on_literals
keeping_says = (refl, refl)

-- lfsed undo --steps 3 a.img, and without it
abbrev undoing : List Text
undoing = codes "lfsed" ∷ codes "undo" ∷ codes "--steps" ∷ codes "3" ∷ codes "a.img" ∷ []

undoing_is_taken : IsTaken undoing
unfolding clap_on_literals
undoing_is_taken = refl

undoing_says : (number_at (codes "steps") undoing ≡ Some (Some (codes "3")))
    × (number_at (codes "steps") (codes "lfsed" ∷ codes "redo" ∷ codes "a.img" ∷ []) ≡ Some (Some (codes "1")))
unfolding clap_on_literals
undoing_says = (refl, refl)

-- lfsed adopt --replace a.img, and without it
abbrev adopting : List Text
adopting = codes "lfsed" ∷ codes "adopt" ∷ codes "--replace" ∷ codes "a.img" ∷ []

abbrev adopting_kept : List Text
adopting_kept = codes "lfsed" ∷ codes "adopt" ∷ codes "-b" ∷ codes "512" ∷ codes "--json" ∷ codes "a.img" ∷ []

adopting_is_taken : IsTaken adopting × IsTaken adopting_kept
unfolding clap_on_literals
adopting_is_taken = (refl, refl)

adopting_says : (text_at (codes "image") adopting ≡ Some (Some (codes "a.img")))
    × (text_at (codes "replace") adopting ≡ Some (Some (codes "true")))
    × (text_at (codes "json") adopting ≡ Some (Some (codes "false")))
    × (text_at (codes "replace") adopting_kept ≡ Some (Some (codes "false")))
    × (text_at (codes "json") adopting_kept ≡ Some (Some (codes "true")))
    × (number_at (codes "block") adopting_kept ≡ Some (Some (codes "512")))
unfolding clap_on_literals
adopting_says = (refl, refl, refl, refl, refl, refl)

-- lfsed diff a.img b.img
abbrev comparing : List Text
comparing = codes "lfsed" ∷ codes "diff" ∷ codes "a.img" ∷ codes "b.img" ∷ []

comparing_is_taken : IsTaken comparing
unfolding clap_on_literals
comparing_is_taken = refl

comparing_says : (text_at (codes "image") comparing ≡ Some (Some (codes "a.img")))
    × (text_at (codes "other") comparing ≡ Some (Some (codes "b.img")))
unfolding clap_on_literals
comparing_says = (refl, refl)

-- lfsed check --device --offset 0x1000 a.img, and without these
abbrev checking : List Text
checking = codes "lfsed" ∷ codes "check" ∷ codes "--device" ∷ codes "--offset" ∷ codes "0x1000" ∷ codes "a.img" ∷ []

checking_is_taken : IsTaken checking
unfolding clap_on_literals
checking_is_taken = refl

checking_says : (text_at (codes "device") checking ≡ Some (Some (codes "true")))
    × (text_at (codes "device") comparing ≡ Some (Some (codes "false")))
    × (text_at (codes "offset") checking ≡ Some (Some (codes "0x1000")))
    × (text_at (codes "offset") comparing ≡ Some None)
unfolding clap_on_literals
checking_says = (refl, refl, refl, refl)

-- lfsed blocks --sum a.img, and without it
abbrev summing : List Text
summing = codes "lfsed" ∷ codes "blocks" ∷ codes "--sum" ∷ codes "a.img" ∷ []

summing_is_taken : IsTaken summing
unfolding clap_on_literals
summing_is_taken = refl

summing_says : (text_at (codes "sum") summing ≡ Some (Some (codes "true")))
    × (text_at (codes "sum") (codes "lfsed" ∷ codes "blocks" ∷ codes "a.img" ∷ []) ≡ Some (Some (codes "false")))
unfolding clap_on_literals
summing_says = (refl, refl)

-- lfsed find flash.bin
abbrev finding : List Text
finding = codes "lfsed" ∷ codes "find" ∷ codes "flash.bin" ∷ []

finding_is_taken : IsTaken finding
unfolding clap_on_literals
finding_is_taken = refl

finding_says : text_at (codes "flash") finding ≡ Some (Some (codes "flash.bin"))
unfolding clap_on_literals
finding_says = refl

-- lfsed repack a.img b.img --name-max 3 --device
abbrev repacking : List Text
repacking = codes "lfsed" ∷ codes "repack" ∷ codes "a.img" ∷ codes "b.img" ∷ codes "--name-max" ∷ codes "3" ∷ codes "--device" ∷ []

repacking_is_taken : IsTaken repacking
unfolding clap_on_literals
repacking_is_taken = refl

repacking_says : (text_at (codes "image") repacking ≡ Some (Some (codes "a.img")))
    × (text_at (codes "source") repacking ≡ Some (Some (codes "b.img")))
    × (number_at (codes "block") repacking ≡ Some (Some (codes "4096")))
    × (text_at (codes "from-block") repacking ≡ Some (Some (codes "auto")))
    × (number_at (codes "count") repacking ≡ Some None)
    × (number_at (codes "name-max") repacking ≡ Some (Some (codes "3")))
    × (number_at (codes "attr-max") repacking ≡ Some None)
    × (text_at (codes "device") repacking ≡ Some (Some (codes "true")))
    × (text_at (codes "older") repacking ≡ Some (Some (codes "false")))
unfolding clap_on_literals
repacking_says = (refl, refl, refl, refl, refl, refl, refl, refl, refl)

-- lfsed pack a.img src --least --size=1M --name-max 3 --new
abbrev packing : List Text
packing = codes "lfsed" ∷ codes "pack" ∷ codes "a.img" ∷ codes "src" ∷ codes "--least" ∷ codes "--size=1M" ∷ codes "--name-max" ∷ codes "3"
    ∷ codes "--new" ∷ []

packing_is_taken : IsTaken packing
unfolding clap_on_literals
packing_is_taken = refl

packing_says : (text_at (codes "least") packing ≡ Some (Some (codes "true")))
    × (text_at (codes "size") packing ≡ Some (Some (codes "1M")))
    × (number_at (codes "count") packing ≡ Some None)
    × (number_at (codes "name-max") packing ≡ Some (Some (codes "3")))
    × (number_at (codes "attr-max") packing ≡ Some (Some (codes "1022")))
    × (text_at (codes "new") packing ≡ Some (Some (codes "true")))
    × (text_at (codes "new") formatting ≡ Some (Some (codes "false")))
unfolding clap_on_literals
packing_says = (refl, refl, refl, refl, refl, refl, refl)

-- lfsed put --block auto --parents --from b.txt a.img /x
abbrev putting : List Text
putting = codes "lfsed" ∷ codes "put" ∷ codes "--block" ∷ codes "auto" ∷ codes "--parents" ∷ codes "--from" ∷ codes "b.txt" ∷ codes "a.img"
    ∷ codes "/x" ∷ []

putting_is_taken : IsTaken putting
unfolding clap_on_literals
putting_is_taken = refl

putting_says : (text_at (codes "block") putting ≡ Some (Some (codes "auto")))
    × (text_at (codes "contents") putting ≡ Some (Some (codes "b.txt")))
    × (text_at (codes "parents") putting ≡ Some (Some (codes "true")))
unfolding clap_on_literals
putting_says = (refl, refl, refl)

-- lfsed batch --keep 3 a.img steps, without a file, and as one change
abbrev batching : List Text
batching = codes "lfsed" ∷ codes "batch" ∷ codes "--keep" ∷ codes "3" ∷ codes "a.img" ∷ codes "steps" ∷ []

abbrev batching_input : List Text
batching_input = codes "lfsed" ∷ codes "batch" ∷ codes "a.img" ∷ []

abbrev batching_one : List Text
batching_one = codes "lfsed" ∷ codes "batch" ∷ codes "--one" ∷ codes "a.img" ∷ []

batching_is_taken : IsTaken batching × IsTaken batching_input × IsTaken batching_one
unfolding clap_on_literals
batching_is_taken = (refl, refl, refl)

batching_says : (text_at (codes "script") batching ≡ Some (Some (codes "steps")))
    × (number_at (codes "keep") batching ≡ Some (Some (codes "3")))
    × (text_at (codes "image") batching_input ≡ Some (Some (codes "a.img")))
    × (text_at (codes "script") batching_input ≡ Some None)
    × (text_at (codes "one") batching_input ≡ Some (Some (codes "false")))
    × (text_at (codes "one") batching_one ≡ Some (Some (codes "true")))
unfolding clap_on_literals
batching_says = (refl, refl, refl, refl, refl, refl)

-- lfsed rm -r a.img /a, and mkdir --parents, and put -p
abbrev removing_all : List Text
removing_all = codes "lfsed" ∷ codes "rm" ∷ codes "-r" ∷ codes "a.img" ∷ codes "/a" ∷ []

abbrev making_all : List Text
making_all = codes "lfsed" ∷ codes "mkdir" ∷ codes "a.img" ∷ codes "--parents" ∷ codes "/a/b" ∷ []

abbrev putting_all : List Text
putting_all = codes "lfsed" ∷ codes "put" ∷ codes "-p" ∷ codes "a.img" ∷ codes "/a/b" ∷ []

trees_are_taken : IsTaken removing_all × IsTaken making_all × IsTaken putting_all
unfolding clap_on_literals
trees_are_taken = (refl, refl, refl)

trees_say : (text_at (codes "recursive") removing_all ≡ Some (Some (codes "true")))
    × (text_at (codes "recursive") (codes "lfsed" ∷ codes "rm" ∷ codes "a.img" ∷ codes "/a" ∷ []) ≡ Some (Some (codes "false")))
    × (text_at (codes "parents") making_all ≡ Some (Some (codes "true")))
    × (text_at (codes "parents") putting_all ≡ Some (Some (codes "true")))
unfolding clap_on_literals
trees_say = (refl, refl, refl, refl)

-- lfsed sync --keep 3 a.img dir /a, and of the whole image
abbrev syncing : List Text
syncing = codes "lfsed" ∷ codes "sync" ∷ codes "--keep" ∷ codes "3" ∷ codes "a.img" ∷ codes "dir" ∷ codes "/a" ∷ []

abbrev syncing_all : List Text
syncing_all = codes "lfsed" ∷ codes "sync" ∷ codes "a.img" ∷ codes "dir" ∷ []

syncing_is_taken : IsTaken syncing × IsTaken syncing_all
unfolding clap_on_literals
syncing_is_taken = (refl, refl)

syncing_says : (text_at (codes "dir") syncing ≡ Some (Some (codes "dir")))
    × (text_at (codes "path") syncing ≡ Some (Some (codes "/a")))
    × (text_at (codes "dir") syncing_all ≡ Some (Some (codes "dir")))
    × (text_at (codes "path") syncing_all ≡ Some None)
unfolding clap_on_literals
syncing_says = (refl, refl, refl, refl)

-- how many blocks needn't be said, as far as the grammar goes
no_count_is_taken : IsTaken (codes "lfsed" ∷ codes "format" ∷ codes "a.img" ∷ [])
unfolding clap_on_literals
no_count_is_taken = refl

-- what is refused: no command, an option that is left out, a number out of its range, a word too many
no_command : fault_of grammar (codes "lfsed" ∷ []) ≡ MissingSubcommand ∷ []
unfolding clap_on_literals
no_command = refl

no_image : fault_of grammar (codes "lfsed" ∷ codes "format" ∷ codes "--count=8" ∷ []) ≡ MissingRequiredArgument ∷ []
unfolding clap_on_literals
no_image = refl

no_size_of_a_new_image : fault_of grammar (codes "lfsed" ∷ codes "format" ∷ codes "-b" ∷ codes "auto" ∷ codes "a.img" ∷ [])
    ≡ ValueValidation ∷ []
unfolding clap_on_literals
no_size_of_a_new_image = refl

no_size_of_a_repacked_image : fault_of grammar
    (codes "lfsed" ∷ codes "repack" ∷ codes "-b" ∷ codes "auto" ∷ codes "a.img" ∷ codes "b.img" ∷ []) ≡ ValueValidation ∷ []
unfolding clap_on_literals
no_size_of_a_repacked_image = refl

no_source : fault_of grammar (codes "lfsed" ∷ codes "repack" ∷ codes "a.img" ∷ []) ≡ MissingRequiredArgument ∷ []
unfolding clap_on_literals
no_source = refl

too_long_a_name : fault_of grammar (codes "lfsed" ∷ codes "format" ∷ codes "--name-max=1023" ∷ codes "a.img" ∷ []) ≡ ValueValidation ∷ []
unfolding clap_on_literals
too_long_a_name = refl

one_block : fault_of grammar (codes "lfsed" ∷ codes "format" ∷ codes "--count" ∷ codes "1" ∷ codes "a.img" ∷ []) ≡ ValueValidation ∷ []
unfolding clap_on_literals
one_block = refl

grown_to_one_block : fault_of grammar (codes "lfsed" ∷ codes "grow" ∷ codes "a.img" ∷ codes "1" ∷ []) ≡ ValueValidation ∷ []
unfolding clap_on_literals
grown_to_one_block = refl

none_kept : fault_of grammar (codes "lfsed" ∷ codes "rm" ∷ codes "--keep" ∷ codes "0" ∷ codes "a.img" ∷ codes "/x" ∷ []) ≡ ValueValidation ∷ []
unfolding clap_on_literals
none_kept = refl

nothing_to_keep : fault_of grammar (codes "lfsed" ∷ codes "check" ∷ codes "--keep" ∷ codes "1" ∷ codes "a.img" ∷ []) ≡ UnknownArgument ∷ []
unfolding clap_on_literals
nothing_to_keep = refl

nothing_to_keep_where_all_is_replaced : fault_of grammar
    (codes "lfsed" ∷ codes "adopt" ∷ codes "--keep" ∷ codes "1" ∷ codes "a.img" ∷ []) ≡ UnknownArgument ∷ []
unfolding clap_on_literals
nothing_to_keep_where_all_is_replaced = refl

nothing_older_to_adopt : fault_of grammar (codes "lfsed" ∷ codes "adopt" ∷ codes "--older" ∷ codes "a.img" ∷ []) ≡ UnknownArgument ∷ []
unfolding clap_on_literals
nothing_older_to_adopt = refl

nothing_of_a_device : fault_of grammar (codes "lfsed" ∷ codes "log" ∷ codes "--device" ∷ codes "a.img" ∷ []) ≡ UnknownArgument ∷ []
unfolding clap_on_literals
nothing_of_a_device = refl

nothing_at_a_place : fault_of grammar (codes "lfsed" ∷ codes "log" ∷ codes "--offset" ∷ codes "0" ∷ codes "a.img" ∷ []) ≡ UnknownArgument ∷ []
unfolding clap_on_literals
nothing_at_a_place = refl

two_images : fault_of grammar (codes "lfsed" ∷ codes "check" ∷ codes "a.img" ∷ codes "b.img" ∷ []) ≡ UnknownArgument ∷ []
unfolding clap_on_literals
two_images = refl

help : fault_of grammar (codes "lfsed" ∷ codes "mv" ∷ codes "--help" ∷ []) ≡ DisplayHelp ∷ []
unfolding clap_on_literals
help = refl

-- lfsed rmattr a.img / -7
stray : fault_of grammar (codes "lfsed" ∷ codes "rmattr" ∷ codes "a.img" ∷ codes "/" ∷ codes "-7" ∷ []) ≡ UnknownArgument ∷ []
unfolding clap_on_literals
stray = refl

stray_is_read : text_at (codes "kind") (dashed (codes "lfsed" ∷ codes "rmattr" ∷ codes "a.img" ∷ codes "/" ∷ codes "-7" ∷ [])) ≡ Some (Some (codes "-7"))
unfolding clap_on_literals
stray_is_read = refl
