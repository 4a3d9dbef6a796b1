use Rattle.std.proofs.Common.{◌≡◌, ℕ, ◌+◌, ◌%◌, ◌/◌, [], ◌∷◌, ◌++◌, length, ◌∙◌, ap, sym, refl, arith, length-append}
use Rattle.spec_wire.specs.Octets.{u16_octets, u32_octets}
use Rattle.spec_wire.specs.Sum.{words, ones_sum}
use Rattle.net_ip4.proofs.pseudo.sum_behind.Goals as goal

-- a field of two octets takes the low bits of a number
low_octets : (n : ℕ) → u16_octets (n % 65536) ≡ u16_octets n
low_octets n =
    let high : n % 65536 / 256 % 256 ≡ n / 256 % 256 = omega arith in
    let low : n % 65536 % 256 ≡ n % 256 = omega arith in
    rw (high, low) refl

pub returns : goal.returns
returns c =
    let header = c.args.header.now in
    let load = c.args.load.now in
    let size : length header + length load ≡ length (header ++ load) = sym (length-append header load) in
    c.sum_of_parts.ensures
    ∙ ap (λ pseudo. ones_sum (words (pseudo ++ (header ++ load)))) c.pseudo_header-pseudo.ensures
    ∙ ap (λ octets. ones_sum (words ((u32_octets c.args.src ++ u32_octets c.args.dst ++ (0 ∷ c.args.protocol ∷ []) ++ octets) ++ (header ++ load))))
    (low_octets (length header + length load) ∙ ap u16_octets size)
