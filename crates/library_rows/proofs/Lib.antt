mod Masses
