-- The measure is the number of places.
use Rattle.pages.proofs.page.Page.+put_hexadecimal.Given as goal

abbrev pub decreases-put_hexadecimal : goal.decreases-put_hexadecimal
decreases-put_hexadecimal l = l.places
