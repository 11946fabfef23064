-- A shelf that tells no files says no more of them.
use Rattle.std.proofs.Common.{refl}
use Rattle.std.proofs.lemmas.Result.{IfOk-weaker, IfErr-weaker}
use Rattle.tc_ports.proofs.adapters.FileShelfShelf.TheImpl.Goals as goal

pub load-tells : goal.load-tells
load-tells g c = record {
  within = c.ensures.within;
  whole = IfOk-weaker _ _ _ (λ bytes _. tt) c.ensures.within;
  refused = IfErr-weaker _ _ _ (λ fault _. tt) c.ensures.cause;
  untold = λ _. c.ensures.untold;
  same_files = refl;
  counted = c.ensures.counted;
  cause = c.ensures.cause;
  count = c.ensures.count;
  small = c.ensures.small;
}
