-- The measure is the account's number.
use Rattle.leaves.proofs.payer.+payer_of.Given as goal

abbrev pub decreases-payer_of : goal.decreases-payer_of
decreases-payer_of l = l.account
