-- The measure is the number: the recursion goes to what stands before its last digit.
use Rattle.lines.proofs.+decimal.Given as goal

abbrev pub decreases-decimal : goal.decreases-decimal
decreases-decimal l = l.n
