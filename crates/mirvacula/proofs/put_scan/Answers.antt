-- `put_scan` meets its contract: the levels stand in the first half, the numbers of words read in the second.
use Rattle.std.proofs.Common.{◌≡◌, length, map, refl, rules}
use Rattle.words.specs.Word.{bit_of}
use Rattle.mirvacula.proofs.Mapped.{map_is}
use Rattle.mirvacula.proofs.put_scan.Goals as goal

pub returns : goal.returns
returns c =
    let six : length c.args.outputs.now ≡ 6 = search rules in
    let levels : c.map.result ≡ map (λ x. bit_of x.level) c.args.outputs.now =
    map_is c.args.outputs.now c.map.ensures.items six (search rules) in
    let words : c.map-2.result ≡ map (λ x. x.words) c.args.outputs.now =
    map_is c.args.outputs.now c.map-2.ensures.items six (search rules) in
    rw (c.copy_from_slice.ensures.after, c.copy_from_slice-2.ensures.after, levels, words) refl
