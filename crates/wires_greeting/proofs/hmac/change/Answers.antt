use Rattle.std.proofs.Common.{ℕ, map, bit_xor, arith, sym, ◌∙◌}
use Rattle.std.proofs.lemmas.List.{ext_get_or, length-map, get_or-map}
use Rattle.wires_greeting.proofs.hmac.change.Goals as goal

pub returns : goal.returns
returns c =
    let pad : ℕ → ℕ = λ byte. bit_xor byte c.args.pad in
    ext_get_or 0 c.loop-byte.block (map pad c.args.block.now) (c.loop-byte.invariant.long ∙ sym (length-map c.args.block.now pad))
    (λ i h. c.loop-byte.invariant.changed i (omega arith) ∙ sym (get_or-map pad c.args.block.now i 0 0 (omega arith)))
