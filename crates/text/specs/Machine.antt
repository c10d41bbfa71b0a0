-- The machine that goes over text by the classes of its bytes: its states, and how far it has come.
-- Assumes nothing.
use Rattle.std.specs.Prelude.{◌≡◌, List, [], ◌∷◌, ℕ, ◌+◌, ◌*◌, ◌%◌, ◌≤◌, ◌<◌, length, drop, get_or, if◌then◌else◌}
use Rattle.rules.specs.Text.{holds, forms, Led, led, not_a_lead, leads, follows}
use Rattle.text.specs.Classes.{following}
use Rattle.text.specs.Sequences.{text_from}

-- What is due in each state: between sequences; so many tails; after E0, ED, F0 and F4; never again.
abbrev pub dues : List Led
dues =
    led []
    ∷ led (following 1)
    ∷ led (following 3)
    ∷ led (following 7)
    ∷ led (following 2)
    ∷ led (following 4)
    ∷ led (following 6)
    ∷ led (following 8)
    ∷ not_a_lead
    ∷ []

abbrev pub due_in : (state : ℕ) → Led
due_in state = get_or dues state not_a_lead

-- The state after a byte of each class, from each state.
abbrev pub nexts : List (List ℕ)
nexts =
    (0 ∷ 8 ∷ 8 ∷ 8 ∷ 8 ∷ 8 ∷ 8 ∷ 8 ∷ 8 ∷ [])
    ∷ (8 ∷ 0 ∷ 1 ∷ 2 ∷ 8 ∷ 1 ∷ 8 ∷ 2 ∷ 8 ∷ [])
    ∷ (8 ∷ 0 ∷ 1 ∷ 2 ∷ 8 ∷ 1 ∷ 2 ∷ 8 ∷ 8 ∷ [])
    ∷ (8 ∷ 0 ∷ 1 ∷ 2 ∷ 1 ∷ 8 ∷ 2 ∷ 8 ∷ 8 ∷ [])
    ∷ (1 ∷ 8 ∷ 8 ∷ 8 ∷ 8 ∷ 8 ∷ 8 ∷ 8 ∷ 8 ∷ [])
    ∷ (4 ∷ 8 ∷ 8 ∷ 8 ∷ 8 ∷ 8 ∷ 8 ∷ 8 ∷ 8 ∷ [])
    ∷ (2 ∷ 8 ∷ 8 ∷ 8 ∷ 8 ∷ 8 ∷ 8 ∷ 8 ∷ 8 ∷ [])
    ∷ (5 ∷ 8 ∷ 8 ∷ 8 ∷ 8 ∷ 8 ∷ 8 ∷ 8 ∷ 8 ∷ [])
    ∷ (2 ∷ 8 ∷ 8 ∷ 8 ∷ 8 ∷ 8 ∷ 8 ∷ 8 ∷ 8 ∷ [])
    ∷ (6 ∷ 8 ∷ 8 ∷ 8 ∷ 8 ∷ 8 ∷ 8 ∷ 8 ∷ 8 ∷ [])
    ∷ (3 ∷ 8 ∷ 8 ∷ 8 ∷ 8 ∷ 8 ∷ 8 ∷ 8 ∷ 8 ∷ [])
    ∷ (7 ∷ 8 ∷ 8 ∷ 8 ∷ 8 ∷ 8 ∷ 8 ∷ 8 ∷ 8 ∷ [])
    ∷ (8 ∷ 8 ∷ 8 ∷ 8 ∷ 8 ∷ 8 ∷ 8 ∷ 8 ∷ 8 ∷ [])
    ∷ []

-- The same in a word for each class: at six times a state, in six bits, six times the state after it.
abbrev pub packed : List ℕ → ℕ
packed [] = 0
packed (next ∷ later) = 6 * next + 64 * packed later

abbrev pub all_packed : List (List ℕ) → List ℕ
all_packed [] = []
all_packed (class ∷ later) = packed class ∷ all_packed later

unfoldable pub steps : List ℕ
steps = all_packed nexts

-- The machine's word says what is due: its lowest six bits are six times the state.
pub record Stands (word : ℕ) (due : Led) : Type 0 where
  pub state : ℕ
  pub known : state < 9
  pub is : word % 64 ≡ 6 * state
  pub means : due ≡ due_in state

-- What is due after a number, by what was due before it.
abbrev pub due_after : (number : ℕ) → Led → Led
due_after number (led []) = leads forms number
due_after number (led (r ∷ due)) = if holds r number then led due else not_a_lead
due_after number not_a_lead = not_a_lead

abbrev pub StepsTo : (word number next : ℕ) → Type 0
StepsTo word number next = (due : Led) → Stands word due → Stands next (due_after number due)

-- The same over numbers in turn.
abbrev pub due_over : (numbers : List ℕ) → Led → Led
due_over [] due = due
due_over (n ∷ numbers) due = due_over numbers (due_after n due)

abbrev pub StepsOver : (word : ℕ) (numbers : List ℕ) (next : ℕ) → Type 0
StepsOver word numbers next = (due : Led) → Stands word due → Stands next (due_over numbers due)

-- From a place between sequences the machine has come to another one; the sequence begun there started at `start`.
pub record At (text : List ℕ) (from at start word : ℕ) : Type 0 where
  pub onward : from ≤ at
  pub within : at ≤ length text
  pub due : Led
  pub stands : Stands word due
  pub alike : text_from text from ≡ follows (drop at text) start at due

-- The same where it is not kept when the sequence started.
pub record Reached (text : List ℕ) (from at word : ℕ) : Type 0 where
  pub start : ℕ
  pub there : At text from at start word
