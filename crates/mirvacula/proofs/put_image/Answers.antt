-- `put_image` meets its contract: each word becomes that of a read, whatever stood there.
use Rattle.std.proofs.Common.{◌+◌, ◌≡◌, length, rules}
use Rattle.std.specs.Result.{result_unwrap_or}
use Rattle.lists.specs.Table.{each}
use Rattle.reading.specs.Read.{read_of}
use Rattle.device.specs.State.{machine}
use Rattle.mirvacula.specs.Exported.{image_of, image_start, image_words}
use Rattle.mirvacula.proofs.put_image.Goals as goal

pub returns : goal.returns
unfolding image_of each
returns c =
    let m = machine c.args.state.now c.args.mem.now in
    let long : length c.args.out.now ≡ image_words = search rules in
    rw long at (c.step_each.ensures.each (λ k x. result_unwrap_or (read_of m (image_start + k)) 0) (search rules) 0)
