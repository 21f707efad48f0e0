-- `spelling::put_decimal` meets its contract: the last digit goes behind those before it. Assumes nothing.
use Rattle.std.proofs.Common.{rules, arith}
use Rattle.spelling.proofs.Digits.{digits_fall, puts_short, puts_long}
use Rattle.spelling.proofs.+put_decimal.Goals as goal

pub returns-then-n-lt10 : goal.returns-then-n-lt10
returns-then-n-lt10 t c =
    let a = c.args in
    (puts_short a.more a.n _ (search rules) c.glyph.ensures c.put_byte.ensures, omega (arith, c.put_byte.ensures.place))

pub returns : goal.returns
returns t c =
    let a = c.args in
    let f = digits_fall a.more a.n (search rules) c.requires.1 in (
      puts_long a.more a.n _ f.0 (search rules) c.glyph-2.ensures (search rules) c.put_decimal-behind.ensures.0 c.put_byte-2.ensures,
      omega (arith, c.put_byte-2.ensures.place, c.put_decimal-behind.ensures.1, f.0),
    )
