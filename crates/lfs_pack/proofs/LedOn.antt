-- Commands that lead on from where others lead to, and those of them that are refused.
use Rattle.std.proofs.Common.{◌≡◌, List, [], ◌∷◌, ◌++◌, Some, refl, ap, sym, ◌∙◌, subst, append_assoc}
use Rattle.lfs_fs.specs.Volume.{Volume}
use Rattle.lfs_command.specs.declared.refusal.Refusal.{Refusal}
use Rattle.lfs_command.specs.Command.{Command}
use Rattle.lfs_command.specs.Verdict.{verdict}
use Rattle.lfs_pack.specs.Lead.{Lead}
use Rattle.lfs_pack.specs.Stopped.{AreStopped}

pub led_on : (cs ds : List Command) (v u w : Volume) → Lead cs v u → Lead ds u w → Lead (cs ++ ds) v w
led_on [] ds v u w is more = subst (λ (x : Volume). Lead ds x w) is more
led_on (c ∷ cs) ds v u w (x, does, led) more = (x, does, led_on cs ds x u w led more)

pub one_stopped : (c : Command) (cs : List Command) (v : Volume) (r : Refusal) → verdict v c ≡ Some r → AreStopped (c ∷ cs) v r
one_stopped c cs v r refused = record { done = []; next = c; later = cs; are = refl; volume = v; led = refl; refused = refused }

pub stopped_first : (cs ds : List Command) (v : Volume) (r : Refusal) → AreStopped cs v r → AreStopped (cs ++ ds) v r
stopped_first cs ds v r stop = record {
  done = stop.done;
  next = stop.next;
  later = stop.later ++ ds;
  are = ap (λ (l : List Command). l ++ ds) stop.are ∙ append_assoc stop.done (stop.next ∷ stop.later) ds;
  volume = stop.volume;
  led = stop.led;
  refused = stop.refused;
}

pub stopped_then : (cs ds : List Command) (v u : Volume) (r : Refusal) → Lead cs v u → AreStopped ds u r → AreStopped (cs ++ ds) v r
stopped_then cs ds v u r led stop = record {
  done = cs ++ stop.done;
  next = stop.next;
  later = stop.later;
  are = ap (λ (l : List Command). cs ++ l) stop.are ∙ sym (append_assoc cs stop.done (stop.next ∷ stop.later));
  volume = stop.volume;
  led = led_on cs stop.done v u stop.volume led stop.led;
  refused = stop.refused;
}
