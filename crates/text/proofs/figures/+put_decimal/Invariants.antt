-- `text::figures::put_decimal` meets its contract. It ends because the number that is left falls.
use Rattle.text.proofs.figures.+put_decimal.Given as goal

abbrev pub decreases-put_decimal : goal.decreases-put_decimal
decreases-put_decimal l = l.x
