-- The fault sheets of the worked cases of whole runs, and what is printed of them.
use Rattle.std.specs.Prelude.{ℕ, List, [], ◌∷◌, ◌++◌, codes}

-- a sheet for three devices: i2c, device 1, is hindered by 110 on its way into level 2
abbrev pub i2c_refuses : List ℕ
i2c_refuses = 0 ∷ 0 ∷ 0 ∷ 0 ∷ 0 ∷ 110 ∷ 0 ∷ 0 ∷ 0 ∷ 0 ∷ 0 ∷ 0 ∷ []

abbrev pub i2c_refuses_text : List ℕ
i2c_refuses_text = codes "clk prepare 0\ni2c prepare 0\nlcd prepare 0\nlcd suspend 0\ni2c suspend -110\n"
    ++ (codes "lcd resume 0\nlcd complete 0\ni2c complete 0\nclk complete 0\n"
    ++ (codes "= fault 110 i2c suspend 4\n"))

-- one for four devices: d, device 3, is hindered by 5 on its way into level 3
abbrev pub d_refuses : List ℕ
d_refuses = 0 ∷ 0 ∷ 0 ∷ 0 ∷ 0 ∷ 0 ∷ 0 ∷ 0 ∷ 0 ∷ 0 ∷ 0 ∷ 0 ∷ 0 ∷ 0 ∷ 5 ∷ 0 ∷ []

abbrev pub d_refuses_text : List ℕ
d_refuses_text = codes "b prepare 0\nd prepare 0\na prepare 0\nc prepare 0\nc suspend 0\na suspend 0\n"
    ++ (codes "d suspend 0\nb suspend 0\nc suspend_late 0\na suspend_late 0\n"
    ++ (codes "d suspend_late -5\na resume_early 0\nc resume_early 0\nb resume 0\nd resume 0\n"
    ++ (codes "a resume 0\nc resume 0\nc complete 0\na complete 0\nd complete 0\nb complete 0\n"
    ++ (codes "= fault 5 d late 10\n"))))

-- one for one device, without a fault
abbrev pub no_faults : List ℕ
no_faults = 0 ∷ 0 ∷ 0 ∷ 0 ∷ []

abbrev pub one_sleeps_text : List ℕ
one_sleeps_text = codes "a prepare 0\na suspend 0\na suspend_late 0\na suspend_noirq 0\n"
    ++ (codes "a resume_noirq 0\na resume_early 0\na resume 0\na complete 0\n= slept 0 - - 4\n")

abbrev pub busy_text : List ℕ
busy_text = codes "a prepare 0\na suspend -16\na complete 0\n= fault 16 a suspend 1\n"

-- one that is a byte too short for three devices
abbrev pub short_sheet : List ℕ
short_sheet = 0 ∷ 0 ∷ 0 ∷ 0 ∷ 0 ∷ 0 ∷ 0 ∷ 0 ∷ 0 ∷ 0 ∷ 0 ∷ []
