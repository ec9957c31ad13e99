-- What is known of the image is known by the outline that was read.
use Rattle.lfs_session.proofs.session.Session.open.Goals as goal

pub invariant_of-result : goal.invariant_of-result
invariant_of-result c =
    let opened = c.in-Ok.ensures.opened in
    record {
      at = opened.session.at;
      known = c.known_by-known.ensures c.read_history.new.image.disk opened.outline;
      room = opened.session.room;
    }
