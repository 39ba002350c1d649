use native.Mathlib.Omega.{arith}
use Rattle.plan_walk.proofs.of_size4.Goals as goal

pub overflow_mul-result : goal.overflow_mul-result
overflow_mul-result c = omega (arith, c.requires.fits _ c.in-Fits.is)

pub overflow_add-result : goal.overflow_add-result
overflow_add-result c = omega (arith, c.requires.fits _ c.in-Fits.is)

pub overflow_mul-result-in-Fits : goal.overflow_mul-result-in-Fits
overflow_mul-result-in-Fits c = omega (arith, c.requires.fits _ c.in-Fits.is)

pub overflow_add-result-in-Fits : goal.overflow_add-result-in-Fits
overflow_add-result-in-Fits c = omega (arith, c.requires.fits _ c.in-Fits.is)

pub returns-in-Empty : goal.returns-in-Empty
returns-in-Empty c = (rw c.in-Empty.is, record { below = omega arith })

pub returns-in-TooLong : goal.returns-in-TooLong
returns-in-TooLong c = (rw c.in-TooLong.is, record { below = omega arith })

pub returns-in-Fits : goal.returns-in-Fits
returns-in-Fits c = (rw c.in-Fits.is, record { below = omega (arith, c.requires.fits _ c.in-Fits.is) })
