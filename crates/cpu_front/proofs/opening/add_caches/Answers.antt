use Rattle.std.proofs.Common.{ap}
use Rattle.cpu_rows.specs.CpuFront.{first_cache}
use Rattle.cpu_rows.specs.declared.part.CpuFrontPart.TheVariants.{Domain}
use Rattle.transfer_cache.specs.Transfer.{Transfer}
use Rattle.cpu_front.proofs.OpeningFacts.{cache_more}
use Rattle.cpu_front.proofs.opening.add_caches.Goals as goal

pub loop-class-preserved : goal.loop-class-preserved
loop-class-preserved c =
    let n = c.loop-class.class in
    cache_more (first_cache c.args.setting.now.config) c.args.parts.now.items c.loop-class.parts.items c.push.new.self.items n (Domain (record { 0 = n }) c.in_ok-cache.cache) c.loop-class.invariant
    (ap (λ (t : Transfer). Domain (record { 0 = n }) t) c.in_ok-cache.ensures) c.in_ok-push.ensures.items
