use Rattle.std.proofs.Common.{rules, ◌≡◌, ap, ◌∙◌, Option, Some, None}
use Rattle.std.specs.Result.{result_err}
use Rattle.lfs_host.specs.Scene.{Scene}
use Rattle.lfs_request.specs.declared.fault.Fault.{Fault}
use Rattle.lfs_open.proofs.ExtractingLemmas.{bytes_end}
use Rattle.lfs_open.proofs.extracting.extract_bytes.Goals as goal

pub returns-in-Ok-extract_image-clause-made : goal.returns-in-Ok-extract_image-clause-made
returns-in-Ok-extract_image-clause-made g c =
    let fault : Option Fault = result_err c.extract_image.result in
    let told : None ≡ fault = search rules in
    let old : Scene = g.H.Known.known c.args.host.now in
    bytes_end c.args.request.now.size c.args.bytes.items c.in-Ok.image.disk c.args.path.now c.args.dir.now old.tree old.made
    (g.H.Known.known c.extract_image.new.host) None fault c.in-Ok.ensures.disk c.in-Ok.ensures.size c.in-Ok.ensures.bytes told
    c.extract_image.ensures.made

pub returns-in-Err-extract_image-clause-made : goal.returns-in-Err-extract_image-clause-made
returns-in-Err-extract_image-clause-made g c =
    let fault : Option Fault = result_err c.extract_image.result in
    let is : Some c.in-Err-extract_image.fault ≡ fault = search rules in
    let stop = c.stop_of_extracting.result in
    let told : Some stop.fault ≡ fault = ap Some c.stop_of_extracting.ensures ∙ is in
    let old : Scene = g.H.Known.known c.args.host.now in
    bytes_end c.args.request.now.size c.args.bytes.items c.in-Ok.image.disk c.args.path.now c.args.dir.now old.tree old.made
    (g.H.Known.known c.extract_image.new.host) (Some stop.fault) fault c.in-Ok.ensures.disk c.in-Ok.ensures.size
    c.in-Ok.ensures.bytes told c.extract_image.ensures.made
