-- A page of 256 bytes: what is written on it, and what it can hold of a text.
use Rattle.std.specs.Prelude.{ℕ, List, take}
use Rattle.pages.specs.declared.page.Page.{Page}

abbrev pub page_bytes : ℕ
page_bytes = 256

-- the bytes written: the first `length`
unfoldable pub written : Page → List ℕ
written p = take p.length p.bytes

-- what a page holds of a text: what goes past it is lost. `printed` fits (proofs/Sizes.antt)
unfoldable pub cut : List ℕ → List ℕ
cut text = take page_bytes text
