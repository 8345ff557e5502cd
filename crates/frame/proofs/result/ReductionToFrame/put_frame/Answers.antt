use Rattle.std.proofs.Common.{◌≡◌, ◌+◌, ◌*◌, pos, rules, append_assoc}
use Rattle.frame.specs.Frames.{head}
use Rattle.frame.specs.Numbers.{two_bytes, signed_bytes}
use Rattle.frame.specs.Results.{width_of}
use Rattle.frame.proofs.Writing.{result_frame_length}
use Rattle.frame.proofs.result.ReductionToFrame.put_frame.Goals as goal

pub returns : goal.returns
returns c =
    let r = c.args.self.now in
    let k = width_of r in
    let long = result_frame_length r in
    let first : c.put_head.new.part ≡ head (7 + 5 * k) r.order.value = search rules in
    let count : c.copy_from_slice.new.self ≡ two_bytes r.count = search rules in
    let twos : c.copy_from_slice-2.new.self ≡ two_bytes r.twos = search rules in
    let g : c.put_signed.new.part ≡ signed_bytes k (pos r.g) = search rules in
    let u : c.put_signed-2.new.part ≡ signed_bytes k r.u = search rules in
    let v : c.put_signed-3.new.part ≡ signed_bytes k r.v = search rules in
    let p : c.put_signed-4.new.part ≡ signed_bytes k r.numerator = search rules in
    let q : c.put_signed-5.new.part ≡ signed_bytes k r.denominator = search rules in
    rw (first, count, twos, g, u, v, p, q) (simp append_assoc)
