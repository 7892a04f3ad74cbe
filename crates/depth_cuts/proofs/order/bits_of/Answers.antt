use Rattle.std.proofs.Common.{sym, arith}
use Rattle.depth_cuts.proofs.Bits.{bits_more, bits_none, few_bits}
use Rattle.depth_cuts.proofs.order.bits_of.Goals as goal

pub loop-channel-init : goal.loop-channel-init
loop-channel-init c = record {
  value = sym (bits_none c.args.widths.now c.args.depths.now);
  most = omega arith;
}

pub loop-channel-preserved : goal.loop-channel-preserved
loop-channel-preserved c =
    let k = c.loop-channel.channel in
    let inside = c.loop-channel-test.true in
    let count = c.requires.count in
    let more = bits_more c.args.widths.now c.args.depths.now k (omega arith) (omega arith) in
    let few = few_bits c.args.widths.now c.args.depths.now k (omega arith) c.requires.narrow c.requires.most in
    let so_far = c.loop-channel.invariant.value in
    let most = c.loop-channel.invariant.most in
    record {
      value = omega arith;
      most = omega arith;
    }
