-- "The programs take G to 16, S = 4, 256 events, 16 questions and 65,536 bytes of text": what they take, and the lengths
-- of the buffers that hold the most of it.
use Rattle.std.specs.Prelude.{ℕ, ◌*◌}
use Rattle.paging.specs.Layout.{frame_words}

abbrev pub most_frames : ℕ
most_frames = 16

-- "P 1..4"
abbrev pub most_processors : ℕ
most_processors = 4

abbrev pub most_events : ℕ
most_events = 256

abbrev pub most_questions : ℕ
most_questions = 16

abbrev pub text_size : ℕ
text_size = 65536

-- "guest words 512×G"
abbrev pub words_size : ℕ
words_size = frame_words * most_frames

-- "word and value pairs"
abbrev pub pairs_size : ℕ
pairs_size = 2 * words_size

-- "events 4×count"
abbrev pub events_size : ℕ
events_size = 4 * most_events

-- "questions (processor, address, request …)"
abbrev pub questions_size : ℕ
questions_size = 3 * most_questions
